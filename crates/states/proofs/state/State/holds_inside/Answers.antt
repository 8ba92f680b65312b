use Rattle.std.proofs.Common.{◌≡◌, List, true, sym, subst, ◌∙◌}
use Rattle.module_format.specs.Rows.{Entry}
use Rattle.states.specs.Below.{entries_hold}
use Rattle.states.specs.Views.{state_of}
use Rattle.states.proofs.CutEntries.{inside-said, so-where-some}
use Rattle.states.proofs.state.State.holds_inside.Goals as goal

pub returns-clause-says : goal.returns-clause-says
returns-clause-says c = λ yes.
    let facts = (state_of c.args.self.now).frame in
    let pieces = c.cut.new.pieces.items in
    let hold = so-where-some c.paid.result (sym c.is_some.ensures ∙ yes) c.paid.ensures.hold in
    inside-said c.args.intervals.now c.args.entries.now pieces facts
    (so-where-some c.cut.result c.if-is_none.ensures c.cut.ensures)
    (subst (λ (entries : List Entry). entries_hold facts entries ≡ true) c.deref.ensures.value hold)
