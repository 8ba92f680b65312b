use Rattle.std.proofs.Common.{◌≡◌, ◌≤◌, ◌-◌}
use Rattle.states.specs.Frames.{frame_facts, with_span, SameRoom}
use Rattle.states.proofs.frame.Frame.leave.Given as goal

abbrev pub invariant-loop-done : goal.invariant-loop-done
invariant-loop-done l = record {
  few : l.done ≤ l.count;
  facts : frame_facts l.self ≡ with_span l.first l.done l.leaving (frame_facts l.fn.self);
  room : SameRoom l.fn.self l.self;
}

abbrev pub decreases-loop-done : goal.decreases-loop-done
decreases-loop-done l = l.count - l.done
