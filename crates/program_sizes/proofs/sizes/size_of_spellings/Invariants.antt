use Rattle.std.proofs.Common.{◌≡◌, length, map, take, sum_by}
use Rattle.occam_parser.specs.LineViews.{spelling_of}
use Rattle.program_sizes.specs.LineSizes.{capped}
use Rattle.program_sizes.proofs.sizes.size_of_spellings.Given as goal

abbrev pub invariant-loop-name : goal.invariant-loop-name
invariant-loop-name l = l.size ≡ capped (sum_by length (map spelling_of (take l.name-index l.names)))
