use Rattle.std.proofs.Common.{refl}
use Rattle.usage_reasons.specs.declared.reason.Why.TheVariants as why
use Rattle.usage_reasons.specs.AtFault.{left_out}
use Rattle.usage_reasons.proofs.main_reason.main_reason.Goals as goal

pub invariant_of-result : goal.invariant_of-result
invariant_of-result c = record { at_fault = ∣ left_out (why.NoMain c.in_ok-found.found) refl ∣₁ }
