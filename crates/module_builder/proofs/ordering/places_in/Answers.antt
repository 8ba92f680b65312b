use Rattle.module_builder.proofs.Numbering.{places_end}
use Rattle.module_builder.proofs.ordering.places_in.Goals as goal

pub returns : goal.returns
returns c =
    places_end c.args.order.now c.args.count c.loop-place.place c.loop-place.places.items c.loop-place-test.false
    c.loop-place.invariant.len c.loop-place.invariant.each
