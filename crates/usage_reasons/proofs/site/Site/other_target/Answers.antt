use Rattle.std.proofs.Common.{◌∙◌, sym, subst}
use Rattle.occam_parser.specs.LineViews.{place_of}
use Rattle.usage_reasons.specs.Causes.{Explains}
use Rattle.usage_reasons.specs.Sites.{known_at}
use Rattle.usage_reasons.proofs.Parts.{target_broken}
use Rattle.usage_reasons.proofs.site.Site.other_target.Goals as goal

pub returns : goal.returns
returns c =
    let es = known_at c.args.self.now in
    subst (Explains es) (sym c.meant.ensures)
    (target_broken es c.args.channel.now (place_of c.args.target.now) c.in_ok-found.found c.in_ok-wanted.wanted
    c.args.at c.width_of_place.result c.args.place c.width_of_place.ensures
    (sym c.carried_by.ensures ∙ c.in_ok-found.was) (sym c.carried_by-2.ensures ∙ c.in_ok-wanted.was)
    (sym c.is_same.ensures ∙ c.if-is_same.false))
