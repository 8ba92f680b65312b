use Rattle.usage_reasons.specs.AtFault.{misused}
use Rattle.usage_reasons.proofs.site.Site.misused.Goals as goal

pub returns : goal.returns
returns c =
    misused c.args.self.now.position c.args.name.now c.in_ok-number.number c.in_ok-why.why c.in_ok-why.ensures
