use Rattle.std.proofs.Common.{◌-◌}
use Rattle.kept_runs.proofs.RunningOn.{RunsStill}
use Rattle.kept_runs.proofs.moving.run.Given as goal

abbrev pub invariant-steps : goal.invariant-steps
invariant-steps l = RunsStill l.program l.initial.machine l.machine l.end

abbrev pub decreases-steps : goal.decreases-steps
decreases-steps l = l.end - l.machine.counters.executed
