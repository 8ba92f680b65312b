use Rattle.std.proofs.Common.{◌≡◌, map, take}
use Rattle.module_builder.specs.Ordering.{rows_in}
use Rattle.module_builder.specs.Assembled.{number_in, arrangement_of}
use Rattle.module_builder.proofs.rows.rows_in.Given as goal

abbrev pub invariant-loop-pair : goal.invariant-loop-pair
invariant-loop-pair g l =
    map g.R.Row.kind.view l.sorted.items
    ≡ map
    (λ row. g.R.Row.kind.placed l.layout.places.items
    (number_in l.draft (arrangement_of l.layout l.orders) (g.R.Row.kind.context row)) row)
    (rows_in (take l.pair-index l.order) l.rows)
