use Rattle.std.proofs.Common.{◌∷◌, ◌++◌, [], arith, sym, subst}
use Rattle.occam_layout.specs.declared.mark.Mark.TheVariants as mark
use Rattle.occam_parser.specs.Terminals.{Name, Mark}
use Rattle.occam_parser.specs.Expressions.{Element, written, written_term}
use Rattle.occam_parser.specs.Views.{expression_of}
use Rattle.usage_reasons.specs.Causes.{IsCause}
use Rattle.usage_reasons.specs.Sites.{known_at}
use Rattle.usage_reasons.proofs.Causes.{element_no_constant}
use Rattle.usage_reasons.proofs.Places.{of_found, on_left}
use Rattle.usage_reasons.proofs.site.Site.in_element.Goals as goal

pub returns-then-eq : goal.returns-then-eq
returns-then-eq c =
    let es = known_at c.args.self.now in
    let e = expression_of c.args.subscript.now in
    subst (IsCause es (written_term (Element c.args.name.now e)) c.args.at) (sym c.meant.ensures)
    (element_no_constant es c.args.name.now e c.args.at c.width_of.result c.plus-len.result
    (omega (arith, c.ranges.at.fits)) c.width_of.ensures c.plus-len.ensures)

pub returns : goal.returns
returns c =
    let es = known_at c.args.self.now in
    let name = c.args.name.now in
    let e = expression_of c.args.subscript.now in
    of_found (IsCause es (Name name ∷ []) c.args.at) (IsCause es (written_term (Element name e)) c.args.at)
    c.in_name.result
    (λ d h. on_left es (Name name ∷ []) (Mark mark.OpenBracket ∷ (written e ++ Mark mark.CloseBracket ∷ [])) c.args.at d h)
    c.in_name.ensures
