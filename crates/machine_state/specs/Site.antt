-- What one instruction of one process finds, what it may change, and what comes of it.
use Rattle.std.specs.Prelude.{ℕ, Bool, ℤ}
use Rattle.machine_state.specs.declared.fault.FaultKind.{FaultKind}
use Rattle.machine_state.specs.Memory.{Memory}
use Rattle.machine_state.specs.Holding.{Holding}
use Rattle.machine_state.specs.declared.process.Registers.{Registers}
use Rattle.machine_state.specs.declared.process.Mode.{Mode}
use Rattle.machine_state.specs.declared.process.Exchange.{Exchange}

-- what an instruction finds and does not change
pub record Site : Type 0 where
  -- the address of the first byte of the code
  pub code_start : ℕ
  pub code_length : ℕ
  -- the code offset after the instruction
  pub next : ℕ
  pub mode : Mode
  pub holding : Holding
  -- whether the module has the operations of two words
  pub has_long_operations : Bool

-- what it may change
pub record Local : Type 0 where
  pub registers : Registers
  pub memory : Memory

pub data Outcome : Type 0 where
  -- it goes on after the instruction
  goes : Local → Outcome
  -- it goes on at this code offset, and may be sent to the back of the ready list
  jumps : ℕ → Local → Outcome
  -- it goes on at this code offset, with no such break
  lands : ℕ → Local → Outcome
  -- it stops for good
  stops : Local → Outcome
  -- it is at fault
  fails : FaultKind → Outcome
  -- it wants to receive, or to send, a message
  receives : Exchange → Local → Outcome
  sends : Exchange → Local → Outcome
  -- it starts the branch that begins at this code offset, with a workspace at this address
  starts : ℕ → ℕ → Local → Outcome
  -- it ends in the join whose block has this address
  joins : ℕ → Local → Outcome
  -- it begins an alternation
  begins : Local → Outcome
  -- it enables the channel at this address, or a skip, if the guard holds
  enables_channel : Bool → ℕ → Local → Outcome
  enables_skip : Bool → Local → Outcome
  -- it waits until something that it has enabled is ready
  waits : Local → Outcome
  -- it disables the channel at this address, or a skip, if the guard holds; the distance is what it may select
  disables_channel : Bool → ℕ → ℤ → Local → Outcome
  disables_skip : Bool → ℤ → Local → Outcome
  -- it ends its alternation and goes on at this code offset
  ends_alternation : ℕ → Local → Outcome
