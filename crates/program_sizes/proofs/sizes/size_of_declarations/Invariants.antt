use Rattle.std.proofs.Common.{◌≡◌, map, take, sum_by}
use Rattle.occam_parser.specs.LineViews.{declaration_of}
use Rattle.program_sizes.specs.LineSizes.{capped, size_of_declaration}
use Rattle.program_sizes.proofs.sizes.size_of_declarations.Given as goal

abbrev pub invariant-loop-declaration : goal.invariant-loop-declaration
invariant-loop-declaration l =
    l.size ≡ capped (sum_by size_of_declaration (map declaration_of (take l.declaration-index l.declarations)))
