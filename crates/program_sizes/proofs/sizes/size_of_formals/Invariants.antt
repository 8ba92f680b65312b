use Rattle.std.proofs.Common.{◌≡◌, map, take, sum_by}
use Rattle.occam_parser.specs.LineViews.{formal_of}
use Rattle.program_sizes.specs.LineSizes.{capped, size_of_formal}
use Rattle.program_sizes.proofs.sizes.size_of_formals.Given as goal

abbrev pub invariant-loop-formal : goal.invariant-loop-formal
invariant-loop-formal l = l.size ≡ capped (sum_by size_of_formal (map formal_of (take l.formal-index l.formals)))
