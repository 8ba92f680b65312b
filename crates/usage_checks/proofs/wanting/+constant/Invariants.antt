use Rattle.std.proofs.Common.{◌≡◌, take}
use Rattle.scalar_ranges.specs.Scopes.{entries_of}
use Rattle.usage_checks.proofs.ConstantOperands.{constant_after}
use Rattle.usage_checks.proofs.wanting.+constant.Given as goal

abbrev pub invariant-is_constant-loop-other : goal.invariant-is_constant-loop-other
invariant-is_constant-loop-other l =
    l.constant ≡ constant_after (entries_of l.scope) l.initial.constant (take l.other-index l.other-items)
