use Rattle.std.proofs.Common.{◌↔◌, drop, map}
use Rattle.module_format.specs.Order.{InOrder}
use Rattle.module_format.proofs.keeping.list.all_keep.Given as goal

abbrev pub invariant-loop-item : goal.invariant-loop-item
invariant-loop-item g l =
    let T = g.T.Listed in
    let xs = map T.listing.view l.items in
    InOrder (T.Keeps l.context) T.listing.behind l.fn.low xs
    ↔ InOrder (T.Keeps l.context) T.listing.behind l.low (drop l.item-index xs)
