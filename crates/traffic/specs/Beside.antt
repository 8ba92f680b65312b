-- A world with other counters and another fault: the traffic of processes reads neither.
use Rattle.std.specs.Prelude.{◌≡◌, ℕ, Option, Result, Ok, Err}
use Rattle.machine_state.specs.declared.fault.Fault.{Fault}
use Rattle.machine_state.specs.declared.process.Exchange.{Exchange}
use Rattle.machine_state.specs.Site.{Local}
use Rattle.machine_state.specs.World.{World, Counters}
use Rattle.machine_state.specs.Moves.{counted, faulty}
use Rattle.machine_state.specs.Turn.{Effect, Turn, Here}
use Rattle.machine_state.specs.Exchanges.{received, sent}
use Rattle.machine_state.specs.Happens.{arrive_turn, acknowledge_turn}

-- the world with these counters and this fault
abbrev pub beside : Counters → Option Fault → World → World
beside counters fault w = record w { counters = counters; fault = fault }

abbrev pub turn_beside : Counters → Option Fault → Turn → Turn
turn_beside counters fault turn = record turn { world = beside counters fault turn.world }

abbrev pub ArrivesBeside : Type 0
ArrivesBeside = (counters : Counters) (fault : Option Fault) (k byte : ℕ) (w : World)
    → arrive_turn k byte (beside counters fault w) ≡ turn_beside counters fault (arrive_turn k byte w)

abbrev pub AcknowledgesBeside : Type 0
AcknowledgesBeside = (counters : Counters) (fault : Option Fault) (k : ℕ) (w : World)
    → acknowledge_turn k (beside counters fault w) ≡ turn_beside counters fault (acknowledge_turn k w)

-- ---- instructions that ask something of others

-- the world that such an instruction leaves, by its result: one more byte is counted, or it is at fault
abbrev pub world_beside : Counters → Option Fault → Result Effect Fault → World → World
world_beside counters fault (Ok effect) w = counted (beside counters fault w)
world_beside counters fault (Err f) w = faulty f (beside counters fault w)

abbrev pub counted_beside : Counters → Option Fault → Turn → Turn
counted_beside counters fault turn = record turn { world = world_beside counters fault turn.answer turn.world }

-- what comes of the turn beside these is what comes of it without them, and they count it
abbrev pub CountsBeside : (World → Turn) → Type 0
CountsBeside turn = (counters : Counters) (fault : Option Fault) (w : World)
    → turn (beside counters fault w) ≡ counted_beside counters fault (turn w)

abbrev pub ReceivesBeside : Type 0
ReceivesBeside = (h : Here) (e : Exchange) (l : Local) → CountsBeside (received h e l)

abbrev pub SendsBeside : Type 0
SendsBeside = (h : Here) (e : Exchange) (l : Local) → CountsBeside (sent h e l)
