use Rattle.std.proofs.Common.{drop}
use Rattle.accepted_runs.proofs.EventByEvent.{IsGoing}
use Rattle.accepted_runs.proofs.replaying.replay.Given as goal

abbrev pub invariant-loop-event : goal.invariant-loop-event
invariant-loop-event l = IsGoing l.fn.verified l.events (drop l.event-index l.events) l.machine l.out
