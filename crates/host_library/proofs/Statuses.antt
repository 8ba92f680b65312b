-- What the statuses of failures differ from.
use Rattle.std.proofs.Common.{◌≡◌, arith}
use Rattle.host_library.specs.declared.failure.HostFailure.{HostFailure}
use Rattle.host_library.specs.declared.failure.HostFailure.TheVariants.{NoFile, Uncertified, NoEvent, Memory}
use Rattle.host_library.specs.declared.status.TheConstants.{NO_MODULE, NOT_CERTIFIED}
use Rattle.host_library.specs.Failures.{IsNoRefusal, status_of}

-- if neither the file nor the module is refused
pub not_refused : (failure : HostFailure) → IsNoRefusal failure
    → (status_of failure ≡ NO_MODULE → ⊥) × (status_of failure ≡ NOT_CERTIFIED → ⊥)
not_refused (NoFile fault) none = absurd none
not_refused (Uncertified refusal) none = absurd none
not_refused (NoEvent index) none = (λ e. omega (arith, e), λ e. omega (arith, e))
not_refused Memory none = (λ e. omega (arith, e), λ e. omega (arith, e))
