use Rattle.std.proofs.Common.{◌≡◌, map, ap, sym, subst, ◌∙◌, arith, rules}
use Rattle.std.specs.Prelude.{IfSome}
use Rattle.occam_parser.specs.declared.tree.Operand.TheFolds.{the_lemmas}
use Rattle.occam_parser.specs.declared.tree.Operation.{Chain}
use Rattle.occam_parser.specs.Expressions.{Prefixed, Paired, Chained, Two, Element, Bracketed, Converted, written}
use Rattle.occam_parser.specs.Expressions.{written_term}
use Rattle.occam_parser.specs.Views.{expression_of, operation_of, term_of, with_others}
use Rattle.occam_parser.proofs.Seen.{view-Chain}
use Rattle.scalar_ranges.specs.Scopes.{entries_of}
use Rattle.usage_reasons.specs.Causes.{IsCause}
use Rattle.usage_reasons.specs.Chains.{written_others}
use Rattle.usage_reasons.proofs.Places.{in_subscript, in_brackets, in_conversion, in_prefix, in_left, in_right, in_other, next_other}
use Rattle.usage_reasons.proofs.Places.{chain_first, chain_second, chain_further}
use Rattle.usage_reasons.proofs.Places.{of_found}
use Rattle.usage_reasons.proofs.Parts.{first_of}
use Rattle.usage_reasons.proofs.site.Site.+search.Goals as goal

pub in_operand-returns-in-Bracketed : goal.in_operand-returns-in-Bracketed
in_operand-returns-in-Bracketed t c =
    let es = entries_of c.args.self.now.scope.now in
    let e = expression_of c.in-Bracketed.inner in
    let whole = term_of c.args.operand.now in
    let view : whole ≡ Bracketed e = search (rules, the_lemmas) in
    of_found (IsCause es (written e) c.plus.result) (IsCause es (written_term whole) c.args.at)
    c.in_expression.result
    (λ d h. in_brackets es whole e c.args.at c.plus.result d view c.plus.ensures h)
    c.in_expression.ensures

pub in_operands-returns-in-Prefix : goal.in_operands-returns-in-Prefix
in_operands-returns-in-Prefix t c =
    let es = entries_of c.args.self.now.scope.now in
    let op = c.in-Prefix.operator in
    let part = term_of c.in-Prefix.operand in
    let whole = expression_of c.args.expr.now in
    let view : whole ≡ Prefixed op part = search (rules, the_lemmas) in
    of_found (IsCause es (written_term part) c.plus.result) (IsCause es (written whole) c.args.at)
    c.in_operand-in-Prefix.result
    (λ d h. in_prefix es whole op part c.args.at c.plus.result d view c.plus.ensures h)
    c.in_operand-in-Prefix.ensures

pub in_others-returns-in-Some : goal.in_others-returns-in-Some
in_others-returns-in-Some t c =
    in_other (entries_of c.args.self.now.scope.now) c.args.operator c.args.others.now c.loop-other.other-index
    c.other-item.result c.args.at c.loop-other.next c.plus.result c.in-Some.cause (omega arith) c.other-item.is
    c.loop-other.invariant c.plus.ensures c.in-Some.ensures

pub in_others-loop-other-preserved : goal.in_others-loop-other-preserved
in_others-loop-other-preserved t c =
    next_other c.args.operator c.args.others.now c.loop-other.other-index c.other-item.result c.args.at
    c.loop-other.next c.width_of_operand.result c.plus_between-next.result (omega arith) c.other-item.is
    c.loop-other.invariant c.width_of_operand.ensures c.plus_between-next.ensures

pub in_expression-returns : goal.in_expression-returns
in_expression-returns t c =
    first_of (IsCause (entries_of c.args.self.now.scope.now) (written (expression_of c.args.expr.now)) c.args.at)
    c.in_operands.result c.in_whole.result c.or.result c.or.ensures c.in_operands.ensures c.in_whole.ensures

pub in_joined-returns : goal.in_joined-returns
in_joined-returns t c =
    first_of (IsCause (entries_of c.args.self.now.scope.now) (written_term (term_of c.args.operand.now)) c.args.at)
    c.in_operand.result c.unfit.result c.or.result c.or.ensures c.in_operand.ensures c.unfit.ensures

pub in_operand-returns-in-Element : goal.in_operand-returns-in-Element
in_operand-returns-in-Element t c =
    let es = entries_of c.args.self.now.scope.now in
    let name = c.in-Element.name.now in
    let e = expression_of c.in-Element.subscript in
    let next = c.plus-next.result in
    let whole = term_of c.args.operand.now in
    let view : whole ≡ Element name e = search (rules, the_lemmas) in
    let inner = first_of (IsCause es (written e) next) c.in_expression-inner.result c.no_subscript.result c.or-inner.result
    c.or-inner.ensures c.in_expression-inner.ensures c.no_subscript.ensures in
    first_of (IsCause es (written_term whole) c.args.at) c.in_element.result c.or-inner.result c.or.result c.or.ensures
    (subst (λ s. IfSome c.in_element.result (IsCause es (written_term s) c.args.at)) (sym view) c.in_element.ensures)
    (of_found (IsCause es (written e) next) (IsCause es (written_term whole) c.args.at) c.or-inner.result
    (λ d h. in_subscript es whole name e c.args.at next d view c.plus-next.ensures h) inner)

pub in_operand-returns-in-Converted : goal.in_operand-returns-in-Converted
in_operand-returns-in-Converted t c =
    let es = entries_of c.args.self.now.scope.now in
    let to = c.in-Converted.to in
    let next = c.plus-in-Converted.result in
    let whole = term_of c.args.operand.now in
    let seen : whole ≡ Converted to (term_of c.in-Converted.operand.value) = search (rules, the_lemmas) in
    let part = term_of c.deref.result.now in
    let view = seen ∙ ap (λ o. Converted to (term_of o)) (sym c.deref.ensures) in
    let other = seen ∙ ap (λ o. Converted to (term_of o)) (sym c.deref-in-Converted.ensures) in
    first_of (IsCause es (written_term whole) c.args.at) c.in_operand-inner.result c.in_converted.result
    c.or-in-Converted.result c.or-in-Converted.ensures
    (of_found (IsCause es (written_term part) next) (IsCause es (written_term whole) c.args.at) c.in_operand-inner.result
    (λ d h. in_conversion es whole to part c.args.at next d view c.plus-in-Converted.ensures h)
    c.in_operand-inner.ensures)
    (subst (λ s. IfSome c.in_converted.result (IsCause es (written_term s) c.args.at)) (sym other) c.in_converted.ensures)

pub in_operands-returns-in-Pair : goal.in_operands-returns-in-Pair
in_operands-returns-in-Pair t c =
    let es = entries_of c.args.self.now.scope.now in
    let op = c.in-Pair.operator in
    let a = term_of c.in-Pair.left in
    let b = term_of c.in-Pair.right in
    let next = c.plus_between-next.result in
    let whole = expression_of c.args.expr.now in
    let view : whole ≡ Paired op a b = search (rules, the_lemmas) in
    first_of (IsCause es (written whole) c.args.at) c.in_operand-in-Pair.result c.in_operand-in-Pair-2.result c.or.result
    c.or.ensures
    (of_found (IsCause es (written_term a) c.args.at) (IsCause es (written whole) c.args.at) c.in_operand-in-Pair.result
    (λ d h. in_left es whole op a b c.args.at d view h) c.in_operand-in-Pair.ensures)
    (of_found (IsCause es (written_term b) next) (IsCause es (written whole) c.args.at) c.in_operand-in-Pair-2.result
    (λ d h. in_right es whole op a b c.args.at c.width_of_operand.result next d view c.width_of_operand.ensures
    c.plus_between-next.ensures h)
    c.in_operand-in-Pair-2.ensures)

pub in_operands-returns-in-Chain : goal.in_operands-returns-in-Chain
in_operands-returns-in-Chain t c =
    let k = c.in-Chain in
    let es = entries_of c.args.self.now.scope.now in
    let whole = expression_of c.args.expr.now in
    let a = term_of k.first in
    let b = term_of k.second in
    let others = c.deref-in-Chain.result.now in
    let width = c.width_of_operand-in-Chain.result in
    let next = c.plus_between-next-in-Chain.result in
    let is : whole ≡ operation_of (Chain k.operator k.first k.second k.others) = search (rules, the_lemmas) in
    let view : whole ≡ Chained k.operator (with_others (Two a b) (map term_of others)) =
    is ∙ view-Chain k.operator k.first k.second k.others
    ∙ ap (λ xs. Chained k.operator (with_others (Two a b) (map term_of xs))) (sym c.deref-in-Chain.ensures.value) in
    first_of (IsCause es (written whole) c.args.at) c.or-two.result c.in_others.result c.or-in-Chain.result
    c.or-in-Chain.ensures
    (first_of (IsCause es (written whole) c.args.at) c.in_joined-begun.result c.in_joined.result c.or-two.result
    c.or-two.ensures
    (of_found (IsCause es (written_term a) c.args.at) (IsCause es (written whole) c.args.at) c.in_joined-begun.result
    (λ d h. chain_first es whole k.operator a b (map term_of others) c.args.at d view h) c.in_joined-begun.ensures)
    (of_found (IsCause es (written_term b) next) (IsCause es (written whole) c.args.at) c.in_joined.result
    (λ d h. chain_second es whole k.operator a b (map term_of others) c.args.at width next d view
    c.width_of_operand-in-Chain.ensures c.plus_between-next-in-Chain.ensures h)
    c.in_joined.ensures))
    (of_found (IsCause es (written_others k.operator (map term_of others)) c.plus-after.result)
    (IsCause es (written whole) c.args.at) c.in_others.result
    (λ d h. chain_further es whole k.operator a b (map term_of others) c.args.at width
    c.width_of_operand-in-Chain-2.result next c.plus-after.result d view c.width_of_operand-in-Chain.ensures
    c.width_of_operand-in-Chain-2.ensures c.plus_between-next-in-Chain.ensures c.plus-after.ensures h)
    c.in_others.ensures)
