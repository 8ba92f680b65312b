use Rattle.std.proofs.Common.{◌≡◌, map, drop}
use Rattle.occam_parser.specs.LineViews.{formal_of}
use Rattle.usage_checks.specs.MainRules.{are_links}
use Rattle.usage_reasons.proofs.main_reason.no_link.Given as goal

-- The formals so far are links.
abbrev pub invariant-loop-formal : goal.invariant-loop-formal
invariant-loop-formal l =
    are_links (map formal_of (drop l.formal-index l.formals)) ≡ are_links (map formal_of l.formals)
