use Rattle.std.proofs.Common.{◌-◌}
use Rattle.accepted_runs.specs.Running.{HasGoneOn}
use Rattle.accepted_runs.proofs.running.RunMachine.proceed.Given as goal

abbrev pub invariant-steps : goal.invariant-steps
invariant-steps l = HasGoneOn l.initial.self l.self

abbrev pub decreases-steps : goal.decreases-steps
decreases-steps l = l.self.contents.budget - l.self.machine.counters.executed
