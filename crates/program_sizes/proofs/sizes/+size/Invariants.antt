use Rattle.std.proofs.Common.{◌≡◌, map, take, sum_by}
use Rattle.occam_parser.specs.Views.{term_of}
use Rattle.program_sizes.specs.LineSizes.{capped}
use Rattle.program_sizes.proofs.ChainSize.{further_size}
use Rattle.program_sizes.proofs.sizes.+size.Given as goal

abbrev pub invariant-size_of_others-loop-other : goal.invariant-size_of_others-loop-other
invariant-size_of_others-loop-other l =
    l.size ≡ capped (sum_by further_size (map term_of (take l.other-index l.others)))
