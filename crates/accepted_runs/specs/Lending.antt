-- What becomes of the machine once the effect that it lends is not used any more.
use Rattle.std.specs.Prelude.{◌≡◌, []}
use Rattle.std.specs.Borrow.{MutBor, Fml}
use Rattle.std.specs.Io.BufRead.{Rests}
use mir.Syntax.{named}
use Rattle.machine_state.specs.declared.event.Event.{Event}
use Rattle.machine_state.specs.Happens.{happens}
use Rattle.machine_state.specs.World.{World}
use Rattle.accepted_runs.specs.Running.{PlainExecution, Shows}
use Rattle.accepted_runs.specs.contracts.running.Run.{the_row}

-- The module stays. If the machine agreed with a world, it agrees with the world after the event.
pub record IsAfter (event : Event) (before after : PlainExecution) : Type 0 where
  pub contents : after.contents ≡ before.contents
  pub shows : (w : World) → Shows before w → Shows after (happens before.contents w event)

abbrev pub Rested : MutBor PlainExecution → Event → Fml
Rested m event = Rests (the_row (record { mir = named 0; lft = [] })) m (IsAfter event m.now)
