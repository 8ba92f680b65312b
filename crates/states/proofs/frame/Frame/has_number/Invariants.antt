use Rattle.std.proofs.Common.{◌≡◌, ℕ, ◌<◌, false, pos, ◌+ℤ◌}
use Rattle.states.specs.Blocks.{first_of, is_number}
use Rattle.states.specs.Frames.{frame_facts}
use Rattle.states.specs.State.{by_itself}
use Rattle.states.proofs.frame.Frame.has_number.Given as goal

abbrev pub invariant-loop-i : goal.invariant-loop-i
invariant-loop-i l =
    (j : ℕ) → j < l.i → is_number (by_itself (frame_facts l.self (first_of l.self.lo l.number +ℤ pos j))) ≡ false
