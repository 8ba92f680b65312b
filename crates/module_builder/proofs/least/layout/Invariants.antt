use Rattle.std.proofs.Common.{◌+◌, ◌-◌, sum}
use Rattle.module_format.specs.declared.limits.TheConstants.{MAX_LONG_CODE}
use Rattle.module_builder.specs.Plans.{planned}
use Rattle.module_builder.proofs.Progress.{IsOnTheWay}
use Rattle.module_builder.proofs.least.layout.Given as goal

abbrev pub invariant-loop-grown : goal.invariant-loop-grown
invariant-loop-grown l = IsOnTheWay l.draft.code (planned l.grown.plan.now l.grown.sizes.lengths.items)

abbrev pub decreases-loop-grown : goal.decreases-loop-grown
decreases-loop-grown l = MAX_LONG_CODE + 1 - sum (planned l.grown.plan.now l.grown.sizes.lengths.items)
