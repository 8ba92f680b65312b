-- A process that lives on: whatever it still waits for, it is at its point when it goes on.
use Rattle.std.specs.Prelude.{◌≡◌, ◌⊎◌, ℕ, ◌+◌, ◌-◌, nat_le, ◌&&◌, ◌<◌, Bool, true, false, length}
use Rattle.module_format.specs.Contents.{Contents}
use Rattle.machine_state.specs.declared.process.Task.{Task}
use Rattle.machine_state.specs.declared.process.Exchange.{Exchange}
use Rattle.machine_state.specs.declared.process.Condition.{Condition}
use Rattle.machine_state.specs.declared.process.Condition.TheVariants.{Ready, Sending, Receiving, OnLink, Alternating}
use Rattle.machine_state.specs.declared.process.Condition.TheVariants.{Stopped, Ended}
use Rattle.machine_state.specs.Memory.{Memory, byte_at}
use Rattle.machine_state.specs.Holding.{Holding, may_write, may_read}
use Rattle.machine_state.specs.World.{input_word}
use Rattle.rulings.specs.Buffers.{message_place, is_filled, IsByte, Fills}
use Rattle.rulings.specs.Regions.{scope_in, HoldsNamed, KeepsMemory}
use Rattle.certified_worlds.specs.Point.{Began, Point, MeetsPoint, BehindIn, owed_at}

-- the place is filled before a waiting process goes on
abbrev pub awaits : Condition → ℕ → Bool
awaits Ready place = false
awaits (Sending x) place = false
awaits (Receiving x) place = is_filled x 0 x.length place
awaits (OnLink x done) place = nat_le (input_word 0) x.channel && is_filled x done (x.length - done) place
awaits Alternating place = false
awaits Stopped place = false
awaits Ended place = false

-- the process waits on an internal channel, to send or to receive this
abbrev pub IsExchanging : Condition → Exchange → Type 0
IsExchanging condition e = (condition ≡ Sending e) ⊎ (condition ≡ Receiving e)

-- Whatever the awaited bytes are, and whatever happens to bytes that the process may not read, it is at its point when
-- it goes on. It may write what it waits for, and that changes nothing else of what its activation has; what it sends
-- are bytes that it may read; a message has the length that the process that began with its channel knows. What its
-- activation has, and what waits for its return, holds now, not only once all bytes are there.
pub record Lives (m : Contents) (h : Holding) (began : Began) (memory : Memory) (t : Task) (due : ℕ) : Type 0 where
  pub point : Point m t
  pub claim : (later : Memory) → length later ≡ length memory
      → ((place : ℕ) → may_read h place ≡ true → awaits t.condition place ≡ false
      → byte_at later place ≡ byte_at memory place)
      → ((place : ℕ) → awaits t.condition place ≡ true → IsByte (byte_at later place))
      → MeetsPoint m t h began point later
  pub room : (place : ℕ) → awaits t.condition place ≡ true → (may_write h place ≡ true) × (place < length memory)
  pub sends : (e : Exchange) → t.condition ≡ Sending e → (j : ℕ) → j < e.length
      → (may_read h (message_place e j) ≡ true) × IsByte (byte_at memory (message_place e j))
  pub fills : (old new : Memory) → Fills h (awaits t.condition) old new
      → KeepsMemory m h (scope_in m point.state point.act.layout) old new
  pub named : HoldsNamed m h (scope_in m point.state point.act.layout) memory
  pub behind : BehindIn m h began point.state.mode point.state.context point.act.layout memory point.callers
  pub known_length : (e : Exchange) → IsExchanging t.condition e → e.length ≡ began.layout.lengths e.channel
  pub paid : due + point.taken ≡ owed_at point.state.mode point.state point.act point.callers

-- a process lives on, or is over
pub data Meets (m : Contents) (h : Holding) (began : Began) (memory : Memory) (t : Task) (due : ℕ) : Type 0 where
  it_lives : Lives m h began memory t due → Meets m h began memory t due
  it_stopped : t.condition ≡ Stopped → Meets m h began memory t due
  it_ended : t.condition ≡ Ended → Meets m h began memory t due
