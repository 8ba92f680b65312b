use Rattle.std.proofs.Common.{◌≡◌, List, true, refl, sym, ap, subst, ◌∙◌}
use Rattle.std.specs.Prelude.{sum_by}
use Rattle.std.specs.List.{list_all}
use Rattle.module_format.specs.Rows.{Entry}
use Rattle.states.specs.Below.{entries_hold, is_whole, price}
use Rattle.states.specs.Views.{state_of}
use Rattle.states.proofs.CutEntries.{outside-said}
use Rattle.states.proofs.state.State.paid_in_pieces.Goals as goal

pub returns-clause-paid : goal.returns-clause-paid
returns-clause-paid c =
    let facts = (state_of c.args.self.now).frame in
    record {
      says = outside-said c.args.intervals.now c.args.entries.now c.cut.new.pieces.items facts c.in_ok-cut.ensures
          (subst (λ (entries : List Entry). entries_hold facts entries ≡ true) c.deref.ensures.value
          c.in_ok-paid.ensures.hold);
      whole = c.in_ok-cut.ensures.whole facts refl
          ∙ (ap (list_all (is_whole facts)) (sym c.deref.ensures.value) ∙ c.in_ok-paid.ensures.whole);
      due = c.in_ok-cut.ensures.due facts refl
          ∙ (ap (sum_by (price facts)) (sym c.deref.ensures.value) ∙ c.in_ok-paid.ensures.paid);
    }
