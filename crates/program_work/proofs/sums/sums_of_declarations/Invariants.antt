use Rattle.std.proofs.Common.{◌≡◌, map, take}
use Rattle.occam_parser.specs.LineViews.{declaration_of}
use Rattle.program_work.specs.Sums.{sums_of_declared}
use Rattle.program_work.proofs.sums.sums_of_declarations.Given as goal

abbrev pub invariant-loop-declaration : goal.invariant-loop-declaration
invariant-loop-declaration l = l.sums ≡ sums_of_declared (map declaration_of (take l.declaration-index l.declarations))
