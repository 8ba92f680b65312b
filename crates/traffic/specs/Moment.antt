-- What the traffic of processes keeps between two moves: a world, and what is always true of its processes.
use Rattle.std.specs.Prelude.{◌≡◌, ⊤, ℕ, ◌<◌, false}
use Rattle.prefix_decoder.specs.Operand.{IsRegister}
use Rattle.machine_state.specs.declared.process.Task.{Task}
use Rattle.machine_state.specs.declared.process.Condition.{Condition}
use Rattle.machine_state.specs.declared.process.Condition.TheVariants.{Ready, Sending, Receiving, OnLink, Alternating}
use Rattle.machine_state.specs.declared.process.Condition.TheVariants.{Stopped, Ended}
use Rattle.machine_state.specs.Holding.{Holding}
use Rattle.machine_state.specs.World.{World, Counters, holding_at}

-- a world, how many more processes its ready list can take without growing, and the process whose holding counts, with
-- what that is
pub record Moment : Type 0 where
  pub world : World
  pub room : ℕ
  pub holder : ℕ
  pub holding : Holding

-- this process's holding counts, as its role is
abbrev pub HoldsAs : ℕ → Moment → Type 0
HoldsAs process m = (m.holder ≡ process) × (m.holding ≡ holding_at m.world.roles process)

-- the same process's holding counts, and it is the same
abbrev pub HoldsAlike : Moment → Moment → Type 0
HoldsAlike old new = (new.holder ≡ old.holder) × (new.holding ≡ old.holding)

-- nothing is counted here: whoever counts keeps the counters beside the traffic
abbrev pub uncounted : Counters
uncounted = record { executed = 0; is_finished = false }

-- who waits on a link waits for at least one more byte
abbrev pub WaitsForMore : Condition → Type 0
WaitsForMore Ready = ⊤
WaitsForMore (Sending exchange) = ⊤
WaitsForMore (Receiving exchange) = ⊤
WaitsForMore (OnLink exchange done) = done < exchange.length
WaitsForMore Alternating = ⊤
WaitsForMore Stopped = ⊤
WaitsForMore Ended = ⊤

-- a process between two bytes
pub record IsSteady (task : Task) : Type 0 where
  pub register : IsRegister task.registers.operand
  pub waiting : WaitsForMore task.condition
