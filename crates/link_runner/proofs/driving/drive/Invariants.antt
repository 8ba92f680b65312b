use Rattle.std.proofs.Common.{◌-◌}
use Rattle.link_runner.proofs.WholeRun.{IsDriving}
use Rattle.link_runner.proofs.driving.drive.Given as goal

abbrev pub invariant-loop-machine : goal.invariant-loop-machine
invariant-loop-machine g l =
    let machine = g.M.Machine in
    let reader = g.R.LinkReader in
    let writer = g.W.LinkWriter in
    IsDriving reader.left reader.failed writer.written writer.failed machine.contents machine.limit
    machine.shows (machine.contents l.initial.machine) (machine.limit l.initial.machine) l.initial.readers
    l.initial.writers l.machine l.readers l.writers l.tally
    l.executed

abbrev pub decreases-loop-machine : goal.decreases-loop-machine
decreases-loop-machine g l = g.M.Machine.limit l.machine - l.executed
