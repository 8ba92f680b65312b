use Rattle.std.proofs.Common.{◌≡◌, take, map, option_map}
use Rattle.module_builder.specs.Layouts.{offset}
use Rattle.module_builder.proofs.least.places_of.Given as goal

abbrev pub invariant-loop-target : goal.invariant-loop-target
invariant-loop-target g l =
    l.places.items ≡ map (option_map (offset (g.P.Offsets.lengths l.offsets))) (take l.target-index l.target-items)
