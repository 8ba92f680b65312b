use Rattle.std.proofs.Common.{◌-◌, length}
use Rattle.link_runner.proofs.PartlyWritten.{IsBegun}
use Rattle.link_runner.proofs.sending.write_whole.Given as goal

abbrev pub invariant-loop-done : goal.invariant-loop-done
invariant-loop-done g l =
    let writer = g.W.LinkWriter in
    IsBegun (writer.written l.initial.writer) (writer.written l.writer) (writer.failed l.writer) l.message l.done

abbrev pub decreases-loop-done : goal.decreases-loop-done
decreases-loop-done g l = length l.message - l.done
