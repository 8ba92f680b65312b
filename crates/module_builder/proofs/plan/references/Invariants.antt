use Rattle.std.proofs.Common.{◌≡◌, take}
use Rattle.module_builder.specs.References.{references_from}
use Rattle.module_builder.proofs.plan.references.Given as goal

abbrev pub invariant-loop-number : goal.invariant-loop-number
invariant-loop-number l = l.references.items ≡ references_from 0 (take l.number l.items)
