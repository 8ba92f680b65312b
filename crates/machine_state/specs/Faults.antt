-- The faults of a process, and what is reported of one.
use Rattle.std.specs.Prelude.{ℕ}
use Rattle.machine_state.specs.declared.fault.Fault.{Fault}
use Rattle.machine_state.specs.declared.fault.FaultKind.{FaultKind}
use Rattle.machine_state.specs.declared.fault.FaultKind.TheVariants as fault

-- the number by which a fault is reported
abbrev pub number_of : FaultKind → ℕ
number_of fault.ErrorFlag = 1
number_of fault.Undefined = 2
number_of fault.OutsideCode = 3
number_of fault.NotOwn = 4
number_of fault.Unaligned = 5
number_of fault.EndNotHeld = 6
number_of fault.UnequalLengths = 7
number_of fault.UnknownOperation = 8
number_of fault.AlternationOrder = 9
number_of fault.JoinOrder = 10
number_of fault.CountRange = 11

-- what is reported of a fault of a process, in its instruction that began at a code offset
abbrev pub fault_in : ℕ → ℕ → FaultKind → Fault
fault_in process began kind = record { number = number_of kind; process = process; offset = began }
