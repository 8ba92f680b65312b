use Rattle.std.proofs.Common.{◌≡◌, map, take}
use Rattle.module_format.specs.Contents.{branch_of}
use Rattle.module_builder.specs.Placing.{placed_branch}
use Rattle.module_builder.proofs.placing.placed_branches.Given as goal

abbrev pub invariant-loop-row : goal.invariant-loop-row
invariant-loop-row l =
    map branch_of l.placed.items ≡ map (placed_branch l.layout.places.items) (take l.row-index l.rows)
