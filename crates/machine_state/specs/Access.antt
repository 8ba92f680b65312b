-- What may be done to a byte.
use Rattle.std.specs.Prelude.{ℕ, Bool}
use Rattle.machine_state.specs.declared.holding.Access.{Access}
use Rattle.machine_state.specs.declared.holding.Access.TheVariants.{Read, Write}
use Rattle.machine_state.specs.Holding.{Holding, may_write, may_read}

abbrev pub may : Access → Holding → ℕ → Bool
may Read h place = may_read h place
may Write h place = may_write h place
