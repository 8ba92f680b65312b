use Rattle.std.proofs.Common.{◌≡◌, ◌≤◌, ◌-◌}
use Rattle.states.specs.Frames.{frame_facts}
use Rattle.states.specs.Spans.{together}
use Rattle.states.proofs.frame.Frame.together.Given as goal

abbrev pub invariant-loop-done : goal.invariant-loop-done
invariant-loop-done l = (l.done ≤ l.end) × (l.all ≡ together (frame_facts l.self) l.first l.done)

abbrev pub decreases-loop-done : goal.decreases-loop-done
decreases-loop-done l = l.end - l.done
