use Rattle.std.proofs.Common.{◌≡◌, ◌+◌, length, map, take}
use Rattle.occam_parser.specs.Views.{term_of}
use Rattle.usage_reasons.specs.Tokens.{capped}
use Rattle.usage_reasons.specs.Chains.{written_others}
use Rattle.usage_reasons.proofs.site.Site.+search.Given as goal

-- how far the loop has come in the tokens
abbrev pub invariant-in_others-loop-other : goal.invariant-in_others-loop-other
invariant-in_others-loop-other l = l.next
    ≡ capped (l.initial.next + length (written_others l.operator (map term_of (take l.other-index l.others))))
