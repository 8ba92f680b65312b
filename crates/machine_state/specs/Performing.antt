-- What one call for one instruction of the running process did, against the outcome of the definitions.
use Rattle.std.specs.Prelude.{◌≡◌, ◌+◌, ℤ, Bool, Result, Ok, Err, if◌then◌else◌}
use Rattle.machine_state.specs.declared.cpu.Cpu.{Cpu}
use Rattle.machine_state.specs.declared.cpu.Flow.{Flow}
use Rattle.machine_state.specs.declared.cpu.Flow.TheVariants.{Next, Jump, Land, Stop, Ask}
use Rattle.machine_state.specs.declared.request.Request.{Request}
use Rattle.machine_state.specs.declared.fault.FaultKind.{FaultKind}
use Rattle.machine_state.specs.declared.store.LoadStore.{Ghosts}
use Rattle.machine_state.specs.Site.{Site, Local, Outcome, goes, jumps, lands, stops, fails}
use Rattle.machine_state.specs.LocalStep.{local_step, instruction_step, operation_step, exchanges}
use Rattle.machine_state.specs.LocalStep.{schedules, without_registers}
use Rattle.machine_state.specs.Asking.{asked, local_for, IsGrantable}
use Rattle.module_format.specs.declared.rows.Direction.{Direction}
use Rattle.machine_state.specs.declared.process.Exchange.{Exchange}
use Rattle.machine_state.specs.declared.op.Op.{Op}
use Rattle.machine_state.specs.declared.instruction.Instruction.{Instruction}
use Rattle.prefix_decoder.specs.declared.function.Fun.{Fun}

-- What the trait LoadStore shows of a store, its ghosts, is the first argument of what follows: its memory, what the
-- running process may touch, and what each may.

-- what an instruction may change of a processor
abbrev pub local_of : {S : Type 0} → Ghosts S → Cpu S → Local
local_of ghosts cpu = record { registers = cpu.registers; memory = ghosts.cells cpu.store }

-- what it finds there and does not change
abbrev pub site_of : {S : Type 0} → Ghosts S → Cpu S → Site
site_of ghosts cpu = record {
  code_start = cpu.code_start;
  code_length = cpu.code_length;
  next = cpu.registers.at + 1;
  mode = cpu.mode;
  holding = ghosts.holding cpu.store;
  has_long_operations = cpu.has_long_operations;
}

-- the value where a test holds, else this fault
abbrev pub value_or_fault : {V : Type 0} → Bool → V → FaultKind → Result V FaultKind
value_or_fault holds value kind = if holds then Ok value else Err kind

-- A test before an instruction: it passes, or the instruction is at fault whatever comes after the test.
abbrev pub Admits : Result (Unit {0}) FaultKind → (Outcome → Outcome) → Type 0
Admits (Ok passed) test = (after : Outcome) → test after ≡ after
Admits (Err kind) test = (after : Outcome) → test after ≡ fails kind

-- What a combinator finds: whatever comes after it comes of this, or the instruction is at fault.
abbrev pub Finds : {X : Type 0} → Result X FaultKind → ((X → Outcome) → Outcome) → Type 0
Finds {X = X} (Ok x) find = (after : X → Outcome) → find after ≡ after x
Finds {X = X} (Err kind) find = (after : X → Outcome) → find after ≡ fails kind

-- The message that an instruction asks for: whatever comes of it comes of this one, once the process can be scheduled,
-- or the instruction is at fault.
abbrev pub AsksFor : {S : Type 0} → Ghosts S → Cpu S → Direction → Result Exchange FaultKind → Type 0
AsksFor ghosts cpu direction (Ok e) = (k : Exchange → Local → Outcome) →
    exchanges (site_of ghosts cpu) direction (local_of ghosts cpu) k
    ≡ schedules (site_of ghosts cpu) (local_of ghosts cpu) (λ l. k e (without_registers l))
AsksFor ghosts cpu direction (Err kind) = (k : Exchange → Local → Outcome) →
    exchanges (site_of ghosts cpu) direction (local_of ghosts cpu) k ≡ fails kind

-- This is asked of others, and can be granted. Of what it may change the instruction has changed the registers alone:
-- whoever grants it takes the words.
pub record Asks {S : Type 0} (ghosts : Ghosts S) (before after : Cpu S) (request : Request)
    (outcome : Outcome) : Type 0 where
  pub asks : outcome ≡ asked request (local_for request after.registers (ghosts.cells before.store))
  pub memory : ghosts.cells after.store ≡ ghosts.cells before.store
  pub grantable : IsGrantable request (site_of ghosts before) after.registers (ghosts.cells before.store)

-- by the result: where the process continues, that it stops, or what it asks of others; a fault changes nothing
abbrev pub HasOutcome : {S : Type 0} → Ghosts S → Cpu S → Cpu S → Result Flow FaultKind → Outcome → Type 0
HasOutcome ghosts before after (Ok Next) outcome = outcome ≡ goes (local_of ghosts after)
HasOutcome ghosts before after (Ok (Jump to)) outcome = outcome ≡ jumps to (local_of ghosts after)
HasOutcome ghosts before after (Ok (Land to)) outcome = outcome ≡ lands to (local_of ghosts after)
HasOutcome ghosts before after (Ok Stop) outcome = outcome ≡ stops (local_of ghosts after)
HasOutcome ghosts before after (Ok (Ask request)) outcome = Asks ghosts before after request outcome
HasOutcome ghosts before after (Err kind) outcome =
    (outcome ≡ fails kind) × (local_of ghosts after ≡ local_of ghosts before)

-- all but the registers and the memory stays
pub record IsSameElsewhere {S : Type 0} (ghosts : Ghosts S) (before after : Cpu S) : Type 0 where
  pub mode : after.mode ≡ before.mode
  pub code_start : after.code_start ≡ before.code_start
  pub code_length : after.code_length ≡ before.code_length
  pub has_long_operations : after.has_long_operations ≡ before.has_long_operations
  pub held : ghosts.holding after.store ≡ ghosts.holding before.store
  pub others : ghosts.roles after.store ≡ ghosts.roles before.store

-- the call has this outcome, and changes nothing but the registers and the memory
pub record Performs {S : Type 0} (ghosts : Ghosts S) (outcome : Outcome) (before after : Cpu S)
    (result : Result Flow FaultKind) : Type 0 where
  pub performed : HasOutcome ghosts before after result outcome
  pub elsewhere : IsSameElsewhere ghosts before after

-- of an operation, of an instruction with its operand, and of a function with its operand
abbrev pub PerformsOperation : {S : Type 0} → Ghosts S → Op → Cpu S → Cpu S → Result Flow FaultKind → Type 0
PerformsOperation ghosts op before after result =
    Performs ghosts (operation_step (site_of ghosts before) op (local_of ghosts before)) before after result

abbrev pub PerformsInstruction : {S : Type 0} → Ghosts S → Instruction → ℤ → Cpu S → Cpu S → Result Flow FaultKind
    → Type 0
PerformsInstruction ghosts instruction operand before after result =
    let step = instruction_step (site_of ghosts before) instruction operand (local_of ghosts before) in
    Performs ghosts step before after result

abbrev pub PerformsFunction : {S : Type 0} → Ghosts S → Fun → ℤ → Cpu S → Cpu S → Result Flow FaultKind → Type 0
PerformsFunction ghosts f operand before after result =
    let step = local_step (site_of ghosts before) f operand (local_of ghosts before) in
    Performs ghosts step before after result
