use Rattle.std.proofs.Common.{take}
use Rattle.std.specs.List.{AllByRecursion}
use Rattle.module_builder.specs.Whole.{LabelRowIsPlaced}
use Rattle.module_builder.proofs.whole.label_rows_are_placed.Given as goal

abbrev pub invariant-loop-row : goal.invariant-loop-row
invariant-loop-row l = AllByRecursion (LabelRowIsPlaced l.code) (take l.row-index l.rows)
