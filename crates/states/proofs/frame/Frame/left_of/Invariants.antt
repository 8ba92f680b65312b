use Rattle.std.proofs.Common.{◌≡◌, ◌+◌, take}
use Rattle.std.specs.Prelude.{sum_by}
use Rattle.states.specs.Below.{price}
use Rattle.states.specs.Frames.{frame_facts}
use Rattle.states.proofs.frame.Frame.left_of.Given as goal

abbrev pub invariant-loop-entry : goal.invariant-loop-entry
invariant-loop-entry l = l.left + sum_by (price (frame_facts l.self)) (take l.entry-index l.row) ≡ l.number
