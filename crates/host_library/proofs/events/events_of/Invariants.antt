use Rattle.std.proofs.Common.{take}
use Rattle.host_library.specs.Events.{AreEventsOf}
use Rattle.host_library.proofs.events.events_of.Given as goal

abbrev pub invariant-loop-index : goal.invariant-loop-index
invariant-loop-index l = AreEventsOf (take l.index l.given) l.events.items
