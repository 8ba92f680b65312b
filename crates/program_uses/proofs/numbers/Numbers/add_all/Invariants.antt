use Rattle.std.proofs.Common.{length}
use Rattle.program_uses.proofs.NumbersJoined.{WordsLeft}
use Rattle.program_uses.proofs.numbers.Numbers.add_all.Given as goal

abbrev pub decreases-loop-block : goal.decreases-loop-block
decreases-loop-block l = length l.rest

abbrev pub invariant-loop-block : goal.invariant-loop-block
invariant-loop-block l = WordsLeft l.fn.self l.self l.other l.rest
