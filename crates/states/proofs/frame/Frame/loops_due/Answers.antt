use Rattle.std.proofs.Common.{arith}
use Rattle.states.specs.Remembering.{was_alone}
use Rattle.states.specs.State.{entry_fact}
use Rattle.states.proofs.Dues.{due-more}
use Rattle.states.proofs.frame.Frame.loops_due.Goals as goal

pub loop-entry-preserved : goal.loop-entry-preserved
loop-entry-preserved c =
    let frame = c.args.self.now in
    let kept = frame.remembered in
    let alone = was_alone (entry_fact frame.row.now) frame.lo kept in
    let sum = c.in_ok-due.ensures in
    due-more (alone c.args.time) (alone kept.time) c.args.row.now c.loop-entry.entry-index _ c.loop-entry.due
    c.in_ok-entry_due.field-0 c.in_ok-due.due (omega arith) sum.1 c.loop-entry.invariant c.in_ok-entry_due.ensures
