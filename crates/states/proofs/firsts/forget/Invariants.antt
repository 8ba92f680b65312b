use Rattle.std.proofs.Common.{◌≡◌, ℕ, ◌<◌, vec_len}
use Rattle.states.specs.Remembered.{time_of}
use Rattle.states.proofs.firsts.forget.Given as goal

abbrev pub invariant-loop-i : goal.invariant-loop-i
invariant-loop-i l = record {
  len : vec_len l.times ≡ vec_len l.fn.times;
  none : (n : ℕ) → n < l.i → time_of l.times.items n ≡ 0;
}
