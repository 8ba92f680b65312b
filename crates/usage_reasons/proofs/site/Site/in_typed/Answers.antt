use Rattle.std.proofs.Common.{◌≡◌, rules}
use Rattle.occam_parser.specs.declared.tree.Operand.TheFolds.{the_lemmas}
use Rattle.occam_parser.specs.Expressions.{Prefixed, Paired, written, written_term}
use Rattle.occam_parser.specs.Views.{expression_of, term_of}
use Rattle.usage_reasons.specs.Causes.{IsCause}
use Rattle.usage_reasons.specs.Sites.{known_at}
use Rattle.usage_reasons.proofs.Places.{in_prefix, in_left, in_right, of_found}
use Rattle.usage_reasons.proofs.Parts.{first_of}
use Rattle.usage_reasons.proofs.site.Site.in_typed.Goals as goal

pub returns-in-Prefix : goal.returns-in-Prefix
returns-in-Prefix c =
    let es = known_at c.args.self.now in
    let op = c.in-Prefix.operator in
    let part = term_of c.in-Prefix.operand in
    let whole = expression_of c.args.expr.now in
    let view : whole ≡ Prefixed op part = search (rules, the_lemmas) in
    of_found (IsCause es (written_term part) c.plus.result) (IsCause es (written whole) c.args.at) c.unfit.result
    (λ d h. in_prefix es whole op part c.args.at c.plus.result d view c.plus.ensures h) c.unfit.ensures

pub returns-in-Pair : goal.returns-in-Pair
returns-in-Pair c =
    let es = known_at c.args.self.now in
    let op = c.in-Pair.operator in
    let a = term_of c.in-Pair.left in
    let b = term_of c.in-Pair.right in
    let next = c.plus_between-next.result in
    let whole = expression_of c.args.expr.now in
    let view : whole ≡ Paired op a b = search (rules, the_lemmas) in
    first_of (IsCause es (written whole) c.args.at) c.or-side.result c.other_types.result c.or.result c.or.ensures
    (first_of (IsCause es (written whole) c.args.at) c.unfit-side.result c.unfit-in-Pair.result c.or-side.result
    c.or-side.ensures
    (of_found (IsCause es (written_term a) c.args.at) (IsCause es (written whole) c.args.at) c.unfit-side.result
    (λ d h. in_left es whole op a b c.args.at d view h) c.unfit-side.ensures)
    (of_found (IsCause es (written_term b) next) (IsCause es (written whole) c.args.at) c.unfit-in-Pair.result
    (λ d h. in_right es whole op a b c.args.at c.width_of_operand.result next d view c.width_of_operand.ensures
    c.plus_between-next.ensures h)
    c.unfit-in-Pair.ensures))
    c.other_types.ensures
