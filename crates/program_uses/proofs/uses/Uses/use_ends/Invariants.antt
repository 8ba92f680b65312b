use Rattle.std.proofs.Common.{take}
use Rattle.program_uses.specs.Sets.{Adds}
use Rattle.program_uses.proofs.Adding.{gathered}
use Rattle.program_uses.proofs.Gathering.{end_uses}
use Rattle.program_uses.proofs.uses.Uses.use_ends.Given as goal

abbrev pub invariant-loop-end : goal.invariant-loop-end
invariant-loop-end l = Adds l.fn.self l.self (gathered (end_uses l.channel l.element) 0 (take l.end-index l.ends))
