-- Sets of ends, as the definitions have them.
use Rattle.std.specs.Prelude.{Bool}
use Rattle.std.specs.BTreeSet.{contains}
use Rattle.std.specs.Ordering.{nat_cmp}
use Rattle.module_format.specs.declared.rows.Direction.TheVariants.{In, Out}
use Rattle.machine_state.specs.declared.holding.End.{End}
use Rattle.joins.specs.declared.given.end_set.EndSet.{EndSet}

-- whether an end is among them
abbrev pub has : EndSet → End → Bool
has set end = elim end.direction [
  | In ↦ contains nat_cmp set.inputs end.address
  | Out ↦ contains nat_cmp set.outputs end.address
]
