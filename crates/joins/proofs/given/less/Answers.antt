use Rattle.machine_state.specs.Views.{holding_view}
use Rattle.joins.specs.Sharing.{share_view}
use Rattle.joins.proofs.Taking.{less_by, covers_mapped}
use Rattle.joins.proofs.given.less.Goals as goal

pub returns : goal.returns
returns c =
    let writes = c.in_ok-writes.writes.items in
    let reads = c.in_ok-reads.reads.items in
    less_by c.args.end (holding_view c.args.holding.now) _ (share_view c.args.share.now) writes reads
    c.deref-3.result.now c.deref-4.result.now c.deref-3.result.now c.deref-4.result.now c.deref-5.result.now
    c.deref-6.result.now
    (covers_mapped c.args.end writes c.deref.result.now c.args.share.now.writes.items c.deref.ensures.value
    c.in_ok-writes.ensures)
    (covers_mapped c.args.end reads c.deref-2.result.now c.args.share.now.reads.items c.deref-2.ensures.value
    c.in_ok-reads.ensures)
    c.deref-3.ensures.value c.deref-4.ensures.value c.deref-3.ensures.value c.deref-4.ensures.value
    c.deref-5.ensures.value c.deref-6.ensures.value c.in_ok-left_to_write.ensures c.in_ok-left_to_read.ensures
    c.in_ok-ends_without.ensures
