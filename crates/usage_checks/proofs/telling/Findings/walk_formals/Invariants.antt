use Rattle.std.proofs.Common.{map, take}
use Rattle.occam_parser.specs.LineViews.{formal_of}
use Rattle.scalar_ranges.specs.Scopes.{entries_of, known_of}
use Rattle.program_uses.specs.Declaring.{add, formal_meaning}
use Rattle.usage_checks.specs.NameRules.{BreaksName}
use Rattle.usage_checks.proofs.OneAfterAnother.{WalksOver}
use Rattle.usage_checks.proofs.telling.Findings.walk_formals.Given as goal

abbrev pub invariant-loop-place : goal.invariant-loop-place
invariant-loop-place l =
    WalksOver (λ f. add f.name (formal_meaning (entries_of l.fn.scope) f)) (λ f. BreaksName l.first l.line f.name)
    (map formal_of (take l.place l.formals)) l.fn.self l.self (known_of l.fn.scope) (known_of l.scope)
