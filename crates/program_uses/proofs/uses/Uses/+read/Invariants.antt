use Rattle.std.proofs.Common.{take}
use Rattle.scalar_ranges.specs.Scopes.{entries_of}
use Rattle.program_uses.specs.Sets.{Adds}
use Rattle.program_uses.proofs.Adding.{gathered}
use Rattle.program_uses.proofs.Gathering.{operand_reads}
use Rattle.program_uses.proofs.uses.Uses.+read.Given as goal

-- what the further operands of a chain read, as far as the loop has come
abbrev pub invariant-read-loop-other : goal.invariant-read-loop-other
invariant-read-loop-other l =
    Adds l.initial.self l.self (gathered (operand_reads (entries_of l.scope)) 0 (take l.other-index l.other-items))
