use Rattle.std.proofs.Common.{◌≡◌, map, take}
use Rattle.occam_parser.specs.LineViews.{declaration_of}
use Rattle.scalar_ranges.specs.Scopes.{entries_of, known_of}
use Rattle.program_uses.specs.Entering.{add_outlines}
use Rattle.program_uses.specs.Extending.{Extends}
use Rattle.program_uses.proofs.extending.add_outlines.Given as goal

abbrev pub invariant-loop-declaration : goal.invariant-loop-declaration
invariant-loop-declaration l = record {
  entries : entries_of l.scope
      ≡ add_outlines (map declaration_of (take l.declaration-index l.declarations)) (entries_of l.fn.scope);
  extends : Extends (known_of l.fn.scope) (known_of l.scope);
}
