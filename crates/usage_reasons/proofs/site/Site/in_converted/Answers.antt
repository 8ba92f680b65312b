use Rattle.std.proofs.Common.{arith}
use Rattle.occam_parser.specs.Expressions.{Converted, type_word, written_term}
use Rattle.occam_parser.specs.Views.{term_of}
use Rattle.usage_reasons.specs.Causes.{IsCause}
use Rattle.usage_reasons.specs.Sites.{known_at}
use Rattle.usage_reasons.proofs.Places.{after_one, itself_if, of_found}
use Rattle.usage_reasons.proofs.site.Site.in_converted.Goals as goal

pub returns-in-Types : goal.returns-in-Types
returns-in-Types c =
    let es = known_at c.args.self.now in
    let to = c.args.to in
    let part = term_of c.args.operand.now in
    of_found (IsCause es (written_term part) c.plus.result) (IsCause es (written_term (Converted to part)) c.args.at)
    c.unfit.result
    (λ d h. after_one es (type_word to) (written_term part) c.args.at c.plus.result d c.plus.ensures h) c.unfit.ensures

pub returns-in-Ranges : goal.returns-in-Ranges
returns-in-Ranges c =
    itself_if (known_at c.args.self.now) (written_term (Converted c.args.to (term_of c.args.operand.now))) c.args.at
    c.plus-len.result c.conversion_fails.result c.meant_if.result c.meant_if.ensures (omega (arith, c.ranges.at.fits))
    (omega (arith, c.plus-len.ensures, c.width_of_operand.ensures)) c.conversion_fails.ensures
