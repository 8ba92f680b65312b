-- What the machine returns for an event, and what becomes of it once the result is not used any more. That an event
-- that runs out of memory does not happen is our own choice.
use Rattle.std.specs.Prelude.{◌≡◌, ⊤, [], Result, Ok, Err}
use Rattle.std.specs.Borrow.{MutBor, Fml}
use Rattle.std.specs.Io.BufRead.{Rests}
use mir.Syntax.{named}
use Rattle.machine_state.specs.declared.event.Event.{Event}
use Rattle.machine_state.specs.declared.event.Effect.{Effect as LentEffect}
use Rattle.machine_state.specs.World.{World}
use Rattle.machine_state.specs.Happens.{Turn, turn}
use Rattle.link_runs.specs.Driving.{shown}
use Rattle.traffic.specs.declared.stop.Stop.{Stop}
use Rattle.traffic.specs.declared.stop.Stop.TheVariants.{Fault, Memory}
use Rattle.machine.specs.contracts.checked.Checked.{the_row}
use Rattle.machine.specs.Asking.{Execution}

-- The result reports the answer of this turn, unless memory ran out.
abbrev pub Tells : Result LentEffect Stop → Turn → Type 0
Tells (Ok effect) t = t.answer ≡ Ok (shown effect)
Tells (Err (Fault f)) t = t.answer ≡ Err f
Tells (Err Memory) t = ⊤

-- The world after is that of this turn, unless memory ran out: then nothing changed.
abbrev pub Leaves : World → World → Result LentEffect Stop → Turn → Type 0
Leaves before after (Ok effect) t = after ≡ t.world
Leaves before after (Err (Fault f)) t = after ≡ t.world
Leaves before after (Err Memory) t = after ≡ before

-- the machine after an event, once the effect that it lends is not used any more; its module stays
pub record IsAfter (event : Event) (result : Result LentEffect Stop) (before after : Execution) : Type 0 where
  pub world : Leaves before.world after.world result (turn before.contents before.world event)
  pub contents : after.contents ≡ before.contents

abbrev pub Rested : MutBor Execution → Event → Result LentEffect Stop → Fml
Rested m event result = Rests (the_row (record { mir = named 0; lft = [] })) m (IsAfter event result m.now)
