use Rattle.std.proofs.Common.{take}
use Rattle.scalar_ranges.specs.Scopes.{entries_of}
use Rattle.program_uses.specs.Sets.{Adds}
use Rattle.program_uses.proofs.Adding.{gathered}
use Rattle.program_uses.proofs.Gathering.{item_reads}
use Rattle.program_uses.proofs.uses.Uses.read_items.Given as goal

abbrev pub invariant-loop-item : goal.invariant-loop-item
invariant-loop-item l =
    Adds l.initial.self l.self (gathered (item_reads (entries_of l.scope)) 0 (take l.item-index l.item-items))
