-- What is not ready is not selected.
use Rattle.std.proofs.Common.{◌≡◌, false, ℤ, Some, None, refl}
use Rattle.machine_state.specs.declared.process.Mode.{Mode}
use Rattle.machine_state.specs.declared.process.Mode.TheVariants.{Plain, Enabling, Disabling, Starting}
use Rattle.machine_state.specs.Alternations.{selected}

pub unready_is_not_selected : (mode : Mode) (distance : ℤ) → selected mode false distance ≡ false
unready_is_not_selected Plain distance = refl
unready_is_not_selected (Enabling is_ready) distance = refl
unready_is_not_selected (Disabling None) distance = refl
unready_is_not_selected (Disabling (Some d)) distance = refl
unready_is_not_selected Starting distance = refl
