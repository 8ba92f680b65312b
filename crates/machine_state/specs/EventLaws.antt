-- Laws of one event, of any module and any world.
use Rattle.std.specs.Prelude.{◌≡◌, ℕ, ◌+◌, Some, Result, Ok, Err}
use Rattle.module_format.specs.Contents.{Contents}
use Rattle.machine_state.specs.declared.event.Event.{Event}
use Rattle.machine_state.specs.declared.fault.Fault.{Fault}
use Rattle.machine_state.specs.World.{World}
use Rattle.machine_state.specs.Turn.{Effect, ran, emitted}
use Rattle.machine_state.specs.Happens.{turn}

-- how many bytes were executed, by the result of an event
abbrev pub bytes_of : Result Effect Fault → ℕ
bytes_of (Ok ran) = 1
bytes_of (Ok (emitted link bytes)) = 1
bytes_of (Ok _) = 0
bytes_of (Err f) = 0

abbrev pub EventsCountBytes : Type 0
EventsCountBytes = (m : Contents) (w : World) (e : Event)
    → (turn m w e).world.counters.executed
    ≡ w.counters.executed + bytes_of (turn m w e).answer

-- an event that reports a fault leaves it in the world
abbrev pub FaultsAreKept : Type 0
FaultsAreKept = (m : Contents) (w : World) (e : Event) (f : Fault)
    → (turn m w e).answer ≡ Err f → (turn m w e).world.fault ≡ Some f

-- after a fault an event changes nothing, and reports the fault again
abbrev pub FaultsStay : Type 0
FaultsStay = (m : Contents) (w : World) (e : Event) (f : Fault) → w.fault ≡ Some f
    → turn m w e ≡ record { world = w; answer = Err f }
