use Rattle.std.proofs.Common.{◌≡◌, ◌*◌, ◌≤◌, take}
use Rattle.module_builder.specs.Limits.{branch_count}
use Rattle.module_builder.proofs.limits.branch_count.Given as goal

abbrev pub invariant-loop-row : goal.invariant-loop-row
invariant-loop-row l = record {
  value : l.count ≡ branch_count (take l.row-index l.rows);
  small : l.count ≤ 64 * l.row-index;
}
