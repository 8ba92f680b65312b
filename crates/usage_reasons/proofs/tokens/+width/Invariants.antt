use Rattle.std.proofs.Common.{◌≡◌, map, take, sum_by}
use Rattle.occam_parser.specs.Views.{term_of}
use Rattle.usage_reasons.specs.Tokens.{capped, tokens_behind}
use Rattle.usage_reasons.proofs.tokens.+width.Given as goal

abbrev pub invariant-width_of_others-loop-other : goal.invariant-width_of_others-loop-other
invariant-width_of_others-loop-other l =
    l.width ≡ capped (sum_by tokens_behind (map term_of (take l.other-index l.others)))
