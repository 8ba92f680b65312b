-- What a call for one event did, against the turn of the definitions.
use Rattle.std.specs.Prelude.{◌≡◌, ⊤, ℤ, true, Result, Ok, Err}
use Rattle.prefix_decoder.specs.declared.function.Fun.{Fun}
use Rattle.machine_state.specs.declared.cpu.Flow.{Flow}
use Rattle.machine_state.specs.declared.cpu.Flow.TheVariants.{Next, Jump, Land, Stop as Stops, Ask}
use Rattle.machine_state.specs.declared.request.Request.{Request}
use Rattle.machine_state.specs.declared.process.Registers.{Registers}
use Rattle.machine_state.specs.declared.fault.Fault.{Fault}
use Rattle.machine_state.specs.declared.fault.FaultKind.{FaultKind}
use Rattle.machine_state.specs.Memory.{Memory, place_of}
use Rattle.machine_state.specs.World.{World, holding_at}
use Rattle.machine_state.specs.Site.{Outcome, goes, jumps, lands, stops, fails}
use Rattle.machine_state.specs.Asking.{asked, local_for, untouched, IsGrantable}
use Rattle.machine_state.specs.Exchanges.{bytes_at}
use Rattle.machine_state.specs.LocalStep.{local_step, are_defined}
use Rattle.machine_state.specs.Moves.{counted, faulty}
use Rattle.machine_state.specs.Happens.{Effect, ran, idle, emitted, taken, kept, busy, acknowledged, ignored, Turn}
use Rattle.machine_state.specs.Happens.{Here}
use Rattle.machine_state.specs.Happens.{answered, site_of}
use Rattle.machine.specs.declared.checked.act.Act.{Act}
use Rattle.machine.specs.declared.checked.act.Act.TheVariants.{Ran, Idle, Emitted, Taken, Kept, Busy, Acknowledged}
use Rattle.machine.specs.declared.checked.act.Act.TheVariants.{Ignored}
use Rattle.traffic.specs.declared.stop.Stop.{Stop}
use Rattle.traffic.specs.declared.stop.Stop.TheVariants as stops
use Rattle.traffic.specs.Moment.{Moment}

-- what an act is in the definitions, where it left this memory
abbrev pub effect_of_act : Memory → Act → Effect
effect_of_act m Ran = ran
effect_of_act m Idle = idle
effect_of_act m (Emitted link e) = emitted link (bytes_at m (place_of e.address) e.length)
effect_of_act m Taken = taken
effect_of_act m Kept = kept
effect_of_act m Busy = busy
effect_of_act m Acknowledged = acknowledged
effect_of_act m Ignored = ignored

-- the bytes that went out, if any did, are defined
abbrev pub IsDefined : Act → Memory → Type 0
IsDefined (Emitted link e) m = are_defined m e.address e.length ≡ true
IsDefined act m = ⊤

-- By the answer: the event happened, this is its turn, and what went out is defined; or memory ran out, and nothing
-- changed.
abbrev pub Applies : World → World → Result Act Stop → Turn → Type 0
Applies before after (Ok act) turn =
    (turn ≡ answered (effect_of_act after.memory act) after) × IsDefined act after.memory
Applies before after (Err (stops.Fault f)) turn = turn ≡ record { world = after; answer = Err f }
Applies before after (Err stops.Memory) turn = after ≡ before

-- ---- one instruction

-- the outcome of this instruction, of whichever module
abbrev pub outcome_at : Here → Fun → ℤ → World → Outcome
outcome_at h f operand w =
    local_step (site_of h w) f operand (record { registers = h.from.registers; memory = w.memory })

-- the outcome of an instruction after which its process goes on so, or asks this of others
abbrev pub outcome_of : Flow → Registers → Memory → Outcome
outcome_of Next registers m = goes (untouched registers m)
outcome_of (Jump to) registers m = jumps to (untouched registers m)
outcome_of (Land to) registers m = lands to (untouched registers m)
outcome_of Stops registers m = stops (untouched registers m)
outcome_of (Ask request) registers m = asked request (local_for request registers m)

-- the world once its own part is done: what it asks of others is still to be granted
abbrev pub world_of : Flow → World → Memory → World
world_of (Ask request) w m = w
world_of flow w m = record w { memory = m }

-- This instruction had this outcome: of the world it changed memory alone, or it is at fault and changed nothing.
abbrev pub PerformsFor : Moment → Moment → Result (Flow × Registers) FaultKind → Outcome → Type 0
PerformsFor before after (Ok gone_on) outcome =
    (outcome ≡ outcome_of gone_on.0 gone_on.1 after.world.memory)
    × (after.world ≡ world_of gone_on.0 before.world after.world.memory) × (after.room ≡ before.room)
PerformsFor before after (Err kind) outcome = (outcome ≡ fails kind) × (after.world ≡ before.world)

-- This request can be granted: the instruction has found what that relies on, and its process's holding counts.
pub record IsPosed (h : Here) (request : Request) (registers : Registers) (m : Moment) : Type 0 where
  pub grantable : IsGrantable request (site_of h m.world) registers m.world.memory
  pub holding : m.holding ≡ holding_at m.world.roles h.process

-- so is what the instruction asks, if it asks something
abbrev pub AsksRightly : Here → Flow → Registers → Moment → Type 0
AsksRightly h (Ask request) registers m = IsPosed h request registers m
AsksRightly h flow registers m = ⊤

-- ---- what is granted

-- By the answer: what was asked is granted, and this is its turn, whose byte is not counted yet; or it is at fault, or
-- memory ran out, and nothing changed.
abbrev pub Grants : World → World → Result Act Stop → Turn → Type 0
Grants before after (Ok act) turn =
    (turn ≡ answered (effect_of_act after.memory act) (counted after)) × IsDefined act after.memory
Grants before after (Err (stops.Fault f)) turn =
    (turn ≡ record { world = faulty f before; answer = Err f }) × (after ≡ before)
Grants before after (Err stops.Memory) turn = after ≡ before

-- the answer of an instruction that brings nothing but a fault
abbrev pub ran_by : Result (Unit {0}) Fault → Result Act Stop
ran_by (Ok done) = Ok Ran
ran_by (Err f) = Err (stops.Fault f)

-- the world once the answer is kept
abbrev pub world_by : Result Act Stop → World → World
world_by (Ok act) w = counted w
world_by (Err (stops.Fault f)) w = faulty f w
world_by (Err stops.Memory) w = w
