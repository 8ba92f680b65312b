use Rattle.std.proofs.Common.{◌≡◌, ◌≢◌, ◌+◌, ◌*◌, ◌/◌, ◌<◌, ◌≤◌, ℕ}
use Rattle.states.specs.Sums.{sum_numbered, sum_after}
use Rattle.states.proofs.sums.Layer.leave_eight.Given as goal

abbrev pub invariant-loop-i : goal.invariant-loop-i
invariant-loop-i l = record {
  done : (n : ℕ) → n / 8 ≡ l.block → n < l.block * 8 + l.i
      → sum_numbered l.self.kept.items n ≡ sum_after (sum_numbered l.fn.self.kept.items n) l.leaving;
  ahead : (n : ℕ) → l.block * 8 + l.i ≤ n → sum_numbered l.self.kept.items n ≡ sum_numbered l.fn.self.kept.items n;
  others : (n : ℕ) → n / 8 ≢ l.block → sum_numbered l.self.kept.items n ≡ sum_numbered l.fn.self.kept.items n;
}
