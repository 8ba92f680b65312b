use Rattle.std.proofs.Common.{◌≡◌, map, take, sum_by}
use Rattle.occam_parser.specs.Views.{expression_of}
use Rattle.usage_reasons.specs.Tokens.{capped, tokens_of_item}
use Rattle.usage_reasons.proofs.declarations.width_of_others.Given as goal

-- how far the loop has come in the items
abbrev pub invariant-loop-item : goal.invariant-loop-item
invariant-loop-item l = l.width ≡ capped (sum_by tokens_of_item (map expression_of (take l.item-index l.items)))
