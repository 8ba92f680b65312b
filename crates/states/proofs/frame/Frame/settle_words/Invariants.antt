use Rattle.std.proofs.Common.{◌≡◌, ℕ, ◌<◌, pos, ◌+ℤ◌}
use Rattle.states.specs.Blocks.{first_of}
use Rattle.states.specs.Frames.{frame_facts, over_facts, SameRoom}
use Rattle.states.proofs.frame.Frame.settle_words.Given as goal

abbrev pub invariant-loop-i : goal.invariant-loop-i
invariant-loop-i l = record {
  facts : frame_facts l.self ≡ frame_facts l.fn.self;
  settled : (j : ℕ) → j < l.i → over_facts l.self (first_of l.fn.self.lo l.number +ℤ pos j)
      ≡ frame_facts l.fn.self (first_of l.fn.self.lo l.number +ℤ pos j);
  blocks : l.self.by_block ≡ l.fn.self.by_block;
  room : SameRoom l.fn.self l.self;
}
