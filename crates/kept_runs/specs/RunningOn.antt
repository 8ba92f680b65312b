-- How far a run goes by itself: no process gives way, and the first that is ready is next.
use Rattle.std.specs.Prelude.{◌≡◌, ℕ, suc, ◌+◌, ◌<◌, ◌≤◌, ◌||◌, Bool, true, false, List, Option, Some, None, Ok}
use Rattle.std.specs.Prelude.{slice_get, slice_index}
use Rattle.module_format.specs.Contents.{Contents}
use Rattle.machine_state.specs.declared.instruction.Instruction.{Instruction}
use Rattle.machine_state.specs.declared.instruction.Instruction.TheVariants as instructions
use Rattle.machine_state.specs.declared.link.Link.{Link}
use Rattle.machine_state.specs.declared.op.Op.TheVariants as ops
use Rattle.machine_state.specs.declared.process.Task.{Task}
use Rattle.machine_state.specs.World.{World}
use Rattle.machine_state.specs.Happens.{ran, emitted, turn, happens}
use Rattle.plain_machine.specs.PlainByte.{byte_completes, is_turn}
use Rattle.link_runs.specs.FirstInFirstOut.{plain_step}
use Rattle.link_runs.specs.Wanting.{is_running}
use Rattle.link_runs.specs.declared.driving.Reaction.{Reaction}
use Rattle.link_runs.specs.declared.driving.Reaction.TheVariants as reactions
use Rattle.kept_runs.specs.declared.running_on.RunReport.{RunReport}
use Rattle.kept_runs.specs.declared.running_on.RunStop.{RunStop}
use Rattle.kept_runs.specs.declared.running_on.RunStop.TheVariants.{AtLimit, Idle, Emitted}

-- ---- what a byte completes

-- it asks something of others
unfoldable pub asks_others : Option Instruction → Bool
asks_others (Some (instructions.Operate ops.StopProcess)) = true
asks_others (Some (instructions.Operate ops.Input)) = true
asks_others (Some (instructions.Operate ops.Output)) = true
asks_others (Some (instructions.Operate ops.StartProcess)) = true
asks_others (Some (instructions.Operate ops.EndProcess)) = true
asks_others (Some (instructions.Operate ops.Alternate)) = true
asks_others (Some (instructions.Operate ops.EnableChannel)) = true
asks_others (Some (instructions.Operate ops.EnableSkip)) = true
asks_others (Some (instructions.Operate ops.AlternationWait)) = true
asks_others (Some (instructions.Operate ops.DisableChannel)) = true
asks_others (Some (instructions.Operate ops.DisableSkip)) = true
asks_others (Some (instructions.Operate ops.AlternationEnd)) = true
asks_others _ = false

-- it turns a loop or ends it, calls a procedure, or asks something of others: a run that reaches its limit stops after it
abbrev pub is_stop : Option Instruction → Bool
is_stop o = is_turn o || asks_others o

-- the instruction that the next byte of a process completes, if it does
abbrev pub completed_of : Contents → Option Task → Option Instruction
completed_of m None = None
completed_of m (Some task) = byte_completes (slice_index m.code task.registers.at) task.registers.operand

-- that of the process that runs
abbrev pub completed_in : Contents → World → Option Instruction
completed_in m w = elim w.queue.running [ None ↦ None | Some p ↦ completed_of m (slice_get w.tasks p) ]

-- ---- runs

-- So many Steps lead from the one world to the other, each of which executed a byte and emitted nothing.
pub data RunsQuietly (m : Contents) (before : World) : ℕ → World → Type 0 where
  at_once : RunsQuietly m before 0 before
  goes_on : (n : ℕ) (w : World) → RunsQuietly m before n w → (turn m w plain_step).answer ≡ Ok ran
      → RunsQuietly m before (suc n) (happens m w plain_step)

-- Of the bytes with which the limit is reached, up to so many, only the last one may complete a stop.
abbrev pub StopsWithin : Contents → World → ℕ → ℕ → Type 0
StopsWithin m before limit executed =
    (n : ℕ) (w : World) → RunsQuietly m before n w → limit ≤ n + 1 → n + 1 < executed
    → is_stop (completed_in m w) ≡ false

-- After at least as many Steps as were asked for.
pub record StopsAtLimit (limit steps told : ℕ) (w : World) (shown : World → Type 0) : Type 0 where
  pub all : limit ≤ steps
  pub executed : told ≡ steps
  pub is_shown : shown w

-- No process is running.
pub record StopsIdle (limit steps told : ℕ) (w : World) (shown : World → Type 0) : Type 0 where
  pub some : steps < limit
  pub executed : told ≡ steps
  pub nobody_runs : is_running w ≡ false
  pub is_shown : shown w

-- One Step more emits this message.
pub record StopsEmitting (m : Contents) (steps told : ℕ) (w : World) (link : Link) (message : List ℕ)
    (shown : World → Type 0) : Type 0 where
  pub executed : told ≡ steps + 1
  pub emits : (turn m w plain_step).answer ≡ Ok (emitted link message)
  pub is_shown : shown (happens m w plain_step)

-- by why it stopped
abbrev pub StopsFor : Contents → ℕ → ℕ → ℕ → World → RunStop → List ℕ → (World → Type 0) → Type 0
StopsFor m limit steps told w AtLimit last shown = StopsAtLimit limit steps told w shown
StopsFor m limit steps told w Idle last shown = StopsIdle limit steps told w shown
StopsFor m limit steps told w (Emitted link) last shown = StopsEmitting m steps told w link last shown

-- After some Steps that emit nothing, it stopped as the report says.
pub record HasRunOn (m : Contents) (before : World) (limit : ℕ) (report : RunReport) (last : List ℕ)
    (shown : World → Type 0) : Type 0 where
  pub steps : ℕ
  pub world : World
  pub quietly : RunsQuietly m before steps world
  pub within : StopsWithin m before limit report.executed
  pub stops : StopsFor m limit steps report.executed world report.stop last shown

-- why a run stopped after a Step that did this, or nothing if the next one follows
abbrev pub stop_by : Reaction → Option RunStop
stop_by reactions.Ran = None
stop_by (reactions.Emitted link) = Some (Emitted link)
stop_by _ = Some Idle

-- whether a run that stopped so sent a message
abbrev pub has_emitted : RunStop → Bool
has_emitted (Emitted link) = true
has_emitted _ = false
