use Rattle.std.proofs.Common.{◌≡◌, ◌++◌, length, drop}
use Rattle.states.specs.State.{parameter_facts}
use Rattle.states.specs.Frames.{frame_facts, SameRoom}
use Rattle.states.proofs.frame.Frame.begin.Given as goal

abbrev pub invariant-loop-last : goal.invariant-loop-last
invariant-loop-last l = record {
  front : l.row.parameters.items ≡ l.rest ++ drop (length l.rest) l.row.parameters.items;
  facts : frame_facts l.self ≡ parameter_facts (length l.rest) (drop (length l.rest) l.row.parameters.items);
  room : SameRoom l.fn.self l.self;
}

abbrev pub decreases-loop-last : goal.decreases-loop-last
decreases-loop-last l = length l.rest
