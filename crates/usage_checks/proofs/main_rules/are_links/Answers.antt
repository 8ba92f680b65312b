use Rattle.std.proofs.Common.{◌&&◌, ◌+◌, map, drop, sym, ap, arith, ◌∙◌}
use Rattle.std.proofs.lemmas.List.{at_drop_all}
use Rattle.occam_parser.specs.LineViews.{formal_of}
use Rattle.usage_checks.specs.MainRules.{are_links}
use Rattle.usage_checks.proofs.Links.{first_link}
use Rattle.usage_checks.proofs.main_rules.are_links.Goals as goal

pub loop-formal-preserved : goal.loop-formal-preserved
loop-formal-preserved c =
    let rest = are_links (map formal_of (drop (c.loop-formal.formal-index + 1) c.args.formals.now)) in
    let link = sym c.if-not-is_link_as.false ∙ c.is_link_as.ensures in
    ap (λ t. t && rest) link
    ∙ sym (first_link c.args.formals.now c.loop-formal.formal-index c.formal-item.result (omega arith) c.formal-item.is)
    ∙ c.loop-formal.invariant

pub returns : goal.returns
returns c =
    sym (at_drop_all (λ fs. are_links (map formal_of fs)) c.args.formals.now c.loop-formal.formal-index (omega arith))
    ∙ c.loop-formal.invariant
