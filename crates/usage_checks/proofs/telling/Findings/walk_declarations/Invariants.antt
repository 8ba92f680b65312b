use Rattle.std.proofs.Common.{map, take}
use Rattle.occam_parser.specs.LineViews.{declaration_of}
use Rattle.scalar_ranges.specs.Scopes.{known_of}
use Rattle.program_uses.specs.Declaring.{add_declaration}
use Rattle.usage_checks.specs.NameRules.{BreaksDeclared}
use Rattle.usage_checks.proofs.OneAfterAnother.{WalksOver}
use Rattle.usage_checks.proofs.telling.Findings.walk_declarations.Given as goal

abbrev pub invariant-loop-declaration : goal.invariant-loop-declaration
invariant-loop-declaration l =
    WalksOver add_declaration (BreaksDeclared l.first) (map declaration_of (take l.declaration-index l.declarations))
    l.fn.self l.self (known_of l.fn.scope) (known_of l.scope)
