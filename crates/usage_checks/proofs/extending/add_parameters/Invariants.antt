use Rattle.std.proofs.Common.{◌≡◌, map, take}
use Rattle.occam_parser.specs.LineViews.{formal_of}
use Rattle.scalar_ranges.specs.Scopes.{entries_of, known_of}
use Rattle.program_uses.specs.Declaring.{add_formals}
use Rattle.program_uses.specs.Extending.{Extends}
use Rattle.usage_checks.proofs.extending.add_parameters.Given as goal

abbrev pub invariant-loop-place : goal.invariant-loop-place
invariant-loop-place l = record {
  entries : entries_of l.scope
      ≡ add_formals (entries_of l.fn.scope) (map formal_of (take l.place l.formals)) (entries_of l.fn.scope);
  extends : Extends (known_of l.fn.scope) (known_of l.scope);
}
