use Rattle.std.proofs.Common.{◌≡◌, length}
use Rattle.states.specs.Frames.{frame_facts, SameRoom}
use Rattle.states.specs.Runs.{IsPassed}
use Rattle.states.proofs.frame.Frame.entries_cost.Given as goal

abbrev pub invariant-loop-rest : goal.invariant-loop-rest
invariant-loop-rest l = record {
  passed : IsPassed (frame_facts l.self) l.row l.rest l.paid;
  facts : frame_facts l.self ≡ frame_facts l.fn.self;
  room : SameRoom l.fn.self l.self;
}

abbrev pub decreases-loop-rest : goal.decreases-loop-rest
decreases-loop-rest l = length l.rest
