use Rattle.std.proofs.Common.{◌≡◌, ◌*◌, ◌≤◌, take}
use Rattle.module_builder.specs.Limits.{branch_count}
use Rattle.module_builder.specs.Ordering.{rows_in}
use Rattle.module_builder.specs.Numbered.{AreSums}
use Rattle.module_builder.proofs.branches.branches_before.Given as goal

abbrev pub invariant-loop-pair : goal.invariant-loop-pair
invariant-loop-pair l = record {
  sums : AreSums l.rows l.order l.pair-index l.sums.items;
  value : l.count ≡ branch_count (rows_in (take l.pair-index l.order) l.rows);
  small : l.count ≤ 64 * l.pair-index;
}
