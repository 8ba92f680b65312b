use Rattle.std.proofs.Common.{map, take}
use Rattle.occam_parser.specs.LineViews.{spelling_of}
use Rattle.scalar_ranges.specs.Scopes.{known_of, meaning_of}
use Rattle.program_uses.specs.Declaring.{add}
use Rattle.usage_checks.specs.NameRules.{BreaksName}
use Rattle.usage_checks.proofs.OneAfterAnother.{WalksOver}
use Rattle.usage_checks.proofs.telling.Findings.walk_names.Given as goal

abbrev pub invariant-loop-name : goal.invariant-loop-name
invariant-loop-name l =
    WalksOver (λ name. add name (meaning_of l.meaning)) (BreaksName l.first l.line)
    (map spelling_of (take l.name-index l.name-items)) l.initial.self l.self (known_of l.initial.scope)
    (known_of l.scope)
