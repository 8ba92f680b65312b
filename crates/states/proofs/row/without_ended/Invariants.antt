use Rattle.std.proofs.Common.{◌≡◌, length, ℤ, ◌≤ℤ◌}
use Rattle.states.specs.Rows.{AreApart}
use Rattle.states.specs.State.{entry_fact}
use Rattle.states.proofs.row.without_ended.Given as goal

abbrev pub invariant-loop-entry : goal.invariant-loop-entry
invariant-loop-entry l = AreApart l.rest × ((k : ℤ) → l.word ≤ℤ k → entry_fact l.rest k ≡ entry_fact l.row k)

abbrev pub decreases-loop-entry : goal.decreases-loop-entry
decreases-loop-entry l = length l.rest
