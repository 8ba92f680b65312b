-- How many bytes a machine takes.
use Rattle.std.specs.Prelude.{◌≡◌, ◌*◌, length}
use Rattle.module_format.specs.Contents.{Contents}
use Rattle.machine_state.specs.World.{loaded_memory}
use Rattle.host_library.specs.declared.measuring.HostSizes.{HostSizes}
use Rattle.host_library.specs.declared.measuring.TheConstants.{RUN_SIZE}

-- Its memory has data, code and constants, and an instruction is decoded at each byte of the code.
pub record AreSizes (sizes : HostSizes) (m : Contents) : Type 0 where
  pub memory : sizes.memory ≡ length (loaded_memory m)
  pub decoded : sizes.decoded ≡ 8 * length m.code
  pub beside : sizes.«record» ≡ RUN_SIZE
  pub budget : sizes.budget ≡ m.budget
