use Rattle.std.proofs.Common.{◌≡◌, ◌+◌, ◌-◌, ℕ, vec_len}
use Rattle.states.specs.Sums.{sum_numbered}
use Rattle.states.proofs.sums.Layer.reach.Given as goal

abbrev pub invariant-loop-self : goal.invariant-loop-self
invariant-loop-self l = record {
  kept : (n : ℕ) → sum_numbered l.self.kept.items n ≡ sum_numbered l.fn.self.kept.items n;
  room : l.self.room ≡ l.fn.self.room;
}

abbrev pub decreases-loop-self : goal.decreases-loop-self
decreases-loop-self l = (l.number + 1) - vec_len l.self.kept
