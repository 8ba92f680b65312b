use Rattle.std.proofs.Common.{◌≡◌, ◌-◌}
use Rattle.states.specs.Frames.{frame_facts, SameRoom}
use Rattle.states.proofs.frame.Frame.sum.Given as goal

abbrev pub invariant-loop-done : goal.invariant-loop-done
invariant-loop-done l = record {
  facts : frame_facts l.self ≡ frame_facts l.fn.self;
  room : SameRoom l.fn.self l.self;
}

abbrev pub decreases-loop-done : goal.decreases-loop-done
decreases-loop-done l = l.end - l.done
