use Rattle.std.proofs.Common.{ap, sym, ◌∙◌}
use Rattle.states.specs.Remembered.{wants_no_loop}
use Rattle.states.proofs.Dues.{none-pairs}
use Rattle.states.proofs.frame.Frame.remember.Goals as goal

pub put-requires-clause-pairs : goal.put-requires-clause-pairs
put-requires-clause-pairs c =
    none-pairs c.args.row.now.entries.items
    (ap wants_no_loop (sym c.deref.ensures.value) ∙ (sym c.wants_no_loop.ensures ∙ c.if-wants_no_loop.true))
