use Rattle.std.proofs.Common.{◌≡◌, map, drop}
use Rattle.occam_parser.specs.LineViews.{formal_of}
use Rattle.compiler.specs.LinkLengths.{length_on}
use Rattle.compiler.proofs.links.length_on.Given as goal

-- what is left decides
abbrev pub invariant-loop-formal : goal.invariant-loop-formal
invariant-loop-formal l =
    length_on l.name (map formal_of (drop l.formal-index l.formals)) ≡ length_on l.name (map formal_of l.formals)
