use Rattle.std.proofs.Common.{◌+◌, cond}
use Rattle.link_runner.specs.Readers.{count_open}
use Rattle.link_runner.proofs.AskedOn.{IsAsking}
use Rattle.link_runner.proofs.providing.provide.Given as goal

abbrev pub invariant-loop-running : goal.invariant-loop-running
invariant-loop-running g l =
    let machine = g.M.Machine in
    let reader = g.R.LinkReader in
    IsAsking reader.left reader.failed machine.contents machine.limit machine.shows machine.awaits l.initial.machine
    l.initial.readers l.initial.tally l.machine l.readers l.tally l.running

abbrev pub decreases-loop-running : goal.decreases-loop-running
decreases-loop-running g l = cond l.running 0 (g.M.Machine.awaits l.machine + count_open l.tally.ended + 1)
