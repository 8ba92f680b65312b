use Rattle.std.proofs.Common.{ℕ, ◌<◌, get_or}
use Rattle.module_format.specs.Rows.{Entry}
use Rattle.states.specs.Comparing.{IsOver}
use Rattle.states.proofs.frame_rows.over_count.Given as goal

abbrev pub invariant-loop-i : goal.invariant-loop-i
invariant-loop-i l = (j : ℕ) → j < l.i → (d : Entry) → IsOver l.entry (get_or l.row j d)
