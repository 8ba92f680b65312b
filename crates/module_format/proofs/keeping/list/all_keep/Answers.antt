use Rattle.module_format.proofs.OrderLaws.{order_goes_on, order_fails, order_is_done, is_broken, is_kept}
use Rattle.module_format.proofs.keeping.list.all_keep.Goals as goal

pub returns-then-not-keeps : goal.returns-then-not-keeps
returns-then-not-keeps g c =
    let T = g.T.Listed in
    order_fails (T.Keeps c.args.context.now) T.listing.behind T.listing.view c.args.items.now c.loop-item.item-index
    c.loop-item.low c.loop-item.invariant c.item-item.result c.loop-item-test.true c.item-item.is
    (is_broken c.keeps.result c.if-not-keeps.true c.keeps.ensures)

pub loop-item-preserved : goal.loop-item-preserved
loop-item-preserved g c =
    let T = g.T.Listed in
    rw (c.after-low.ensures c.loop-item.low)
    (order_goes_on (T.Keeps c.args.context.now) T.listing.behind T.listing.view c.args.items.now
    c.loop-item.item-index c.loop-item.low c.loop-item.invariant c.item-item.result c.loop-item-test.true
    c.item-item.is (is_kept c.keeps.result c.if-not-keeps.false c.keeps.ensures))

pub returns : goal.returns
returns g c =
    let T = g.T.Listed in
    order_is_done (T.Keeps c.args.context.now) T.listing.behind T.listing.view c.args.items.now
    c.loop-item.item-index c.loop-item.low c.loop-item.invariant c.loop-item-test.false
