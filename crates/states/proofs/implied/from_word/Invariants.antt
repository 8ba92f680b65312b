use Rattle.std.proofs.Common.{◌≡◌, ◌≤◌, ◌+◌, ℤ, ◌≤ℤ◌, length, drop}
use Rattle.states.specs.State.{entry_fact}
use Rattle.states.proofs.implied.from_word.Given as goal

abbrev pub invariant-loop-size : goal.invariant-loop-size
invariant-loop-size l = record {
  fits : l.low + l.size ≤ length l.row;
  same : (k : ℤ) → l.word ≤ℤ k → entry_fact (drop l.low l.row) k ≡ entry_fact l.row k;
}

abbrev pub decreases-loop-size : goal.decreases-loop-size
decreases-loop-size l = l.size
