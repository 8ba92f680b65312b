use Rattle.std.proofs.Common.{◌∙◌, sym}
use Rattle.usage_reasons.specs.AtFault.{not_taken}
use Rattle.usage_reasons.proofs.site.Site.place_not_taken.Goals as goal

pub returns : goal.returns
returns c =
    not_taken c.args.passed.place c.args.parameter c.in_ok-found.found c.is_subscripted.result
    (sym c.takes.ensures ∙ c.if-takes.false)
