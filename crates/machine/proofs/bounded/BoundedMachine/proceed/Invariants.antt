use Rattle.std.proofs.Common.{◌-◌}
use Rattle.machine.proofs.Bounding.{HasGone}
use Rattle.machine.proofs.bounded.BoundedMachine.proceed.Given as goal

abbrev pub invariant-steps : goal.invariant-steps
invariant-steps g l = HasGone l.initial.self l.self

abbrev pub decreases-steps : goal.decreases-steps
decreases-steps g l = l.self.limit - l.self.world.counters.executed
