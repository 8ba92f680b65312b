-- What `in` and `out` have in common: the message, with its bytes tested.
use Rattle.std.specs.Prelude.{◌≡◌, ℕ, Bool, Result, Ok, Err}
use Rattle.module_format.specs.declared.rows.Direction.{Direction}
use Rattle.module_format.specs.declared.rows.Direction.TheVariants.{In, Out}
use Rattle.machine_state.specs.declared.cpu.Cpu.{Cpu}
use Rattle.machine_state.specs.declared.fault.FaultKind.{FaultKind}
use Rattle.machine_state.specs.declared.fault.FaultKind.TheVariants.{Undefined}
use Rattle.machine_state.specs.declared.op.Op.{Op}
use Rattle.machine_state.specs.declared.op.Op.TheVariants.{Input, Output}
use Rattle.machine_state.specs.declared.process.Exchange.{Exchange}
use Rattle.machine_state.specs.declared.store.LoadStore.{Ghosts}
use Rattle.machine_state.specs.Holding.{Holding}
use Rattle.machine_state.specs.Site.{Local, Outcome, receives, sends, fails}
use Rattle.machine_state.specs.LocalStep.{may_read_bytes, may_write_bytes, are_defined, holds, operation_step}
use Rattle.machine_state.specs.LocalStep.{without_registers, without_scheduling_words}
use Rattle.machine_state.specs.Performing.{site_of, local_of}

-- n bytes from this address on may be written by a process that receives, and read by one that sends
abbrev pub may_use_bytes : Holding → Direction → ℕ → ℕ → Bool
may_use_bytes h In a n = may_write_bytes h a n
may_use_bytes h Out a n = may_read_bytes h a n

-- the operation by which a message goes this way
abbrev pub operation_for : Direction → Op
operation_for In = Input
operation_for Out = Output

-- what comes of a message that may go this way: all bytes that are sent are defined
abbrev pub goes_through : Direction → Exchange → Local → Outcome
goes_through In e l = receives e l
goes_through Out e l = holds (are_defined l.memory e.address e.length) Undefined (sends e l)

-- once scheduling has taken its words, and without registers
abbrev pub scheduled_without_registers : Local → Local
scheduled_without_registers l =
    without_registers (record l { memory = without_scheduling_words l.memory l.registers.workspace })

-- The operation comes to this message, or it is at fault.
abbrev pub AsksForMessage : {S : Type 0} → Ghosts S → Cpu S → Direction → Result Exchange FaultKind → Type 0
AsksForMessage ghosts cpu direction (Ok e) =
    operation_step (site_of ghosts cpu) (operation_for direction) (local_of ghosts cpu)
    ≡ goes_through direction e (scheduled_without_registers (local_of ghosts cpu))
AsksForMessage ghosts cpu direction (Err kind) =
    operation_step (site_of ghosts cpu) (operation_for direction) (local_of ghosts cpu) ≡ fails kind
