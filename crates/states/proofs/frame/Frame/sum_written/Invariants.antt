use Rattle.std.proofs.Common.{◌≡◌}
use Rattle.states.specs.Frames.{frame_facts, SameRoom}
use Rattle.states.proofs.frame.Frame.sum_written.Given as goal

abbrev pub invariant-loop-number : goal.invariant-loop-number
invariant-loop-number l = record {
  facts : frame_facts l.self ≡ frame_facts l.fn.self;
  room : SameRoom l.fn.self l.self;
}
