use Rattle.std.proofs.Common.{◌≡◌, ◌++◌, ℕ, List, Option, map, drop}
use Rattle.module_builder.specs.Placing.{placed_branch}
use Rattle.code_pieces.specs.PieceViews.{branch_of}
use Rattle.code_pieces.specs.DraftedPars.{laid_branch}
use Rattle.code_pieces.proofs.pars.branch_rows.Given as goal

abbrev pub invariant-loop-branch : goal.invariant-loop-branch
invariant-loop-branch l =
    (offsets : List (Option ℕ)) → map (placed_branch offsets) l.rows.items
    ++ map (laid_branch offsets) (map branch_of (drop l.branch-index l.branches))
    ≡ map (laid_branch offsets) (map branch_of l.branches)
