use Rattle.std.proofs.Common.{◌-◌, ◌≡◌, ◌≤◌, ℤ, ◌≤ℤ◌, drop, length}
use Rattle.states.specs.State.{entry_fact}
use Rattle.states.proofs.implied.place_near.Given as goal

abbrev pub invariant-loop-place : goal.invariant-loop-place
invariant-loop-place l = record {
  fits : l.place ≤ length l.row;
  some : 1 ≤ l.step;
  same : (k : ℤ) → l.word ≤ℤ k → entry_fact (drop l.place l.row) k ≡ entry_fact l.row k;
}

abbrev pub decreases-loop-place : goal.decreases-loop-place
decreases-loop-place l = length l.row - l.place

abbrev pub invariant-loop-step : goal.invariant-loop-step
invariant-loop-step l = record {
  fits : l.place ≤ length l.row;
  same : (k : ℤ) → l.word ≤ℤ k → entry_fact (drop l.place l.row) k ≡ entry_fact l.row k;
}

abbrev pub decreases-loop-step : goal.decreases-loop-step
decreases-loop-step l = l.step - 1
