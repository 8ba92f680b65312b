use Rattle.std.proofs.Common.{◌≡◌, map, sum_by, arith, ap, sym, ◌∙◌, rules, length, length-append, ◌∷◌, []}
use Rattle.occam_layout.specs.declared.mark.Mark.TheVariants as mark
use Rattle.occam_parser.specs.declared.tree.Operand.TheFolds.{the_lemmas}
use Rattle.occam_parser.specs.declared.tree.Operation.{Chain}
use Rattle.occam_parser.specs.Expressions.{Alone, Prefixed, Paired, Two, Element, Bracketed, Converted}
use Rattle.occam_parser.specs.Expressions.{written, written_terms, written_term, chain_mark, pair_mark}
use Rattle.occam_parser.specs.Terminals.{Mark, Name}
use Rattle.occam_parser.specs.Views.{expression_of, operation_of, term_of, with_others}
use Rattle.occam_parser.proofs.Seen.{view-Chain}
use Rattle.usage_reasons.specs.Tokens.{tokens_behind}
use Rattle.usage_reasons.proofs.ChainWidth.{chain_width}
use Rattle.usage_reasons.proofs.tokens.+width.Goals as goal

pub width_of-returns-in-Operand : goal.width_of-returns-in-Operand
width_of-returns-in-Operand t c =
    let view : expression_of c.args.expr.now ≡ Alone (term_of c.in-Operand.operand) = search (rules, the_lemmas) in
    omega (arith, ap (λ e. length (written e)) view)

pub width_of-returns-in-Prefix : goal.width_of-returns-in-Prefix
width_of-returns-in-Prefix t c =
    let view : expression_of c.args.expr.now ≡ Prefixed c.in-Prefix.operator (term_of c.in-Prefix.operand) =
    search (rules, the_lemmas) in
    omega (arith, ap (λ e. length (written e)) view)

pub width_of-returns-in-Pair : goal.width_of-returns-in-Pair
width_of-returns-in-Pair t c =
    let op = c.in-Pair.operator in
    let a = term_of c.in-Pair.left in
    let b = term_of c.in-Pair.right in
    let view : expression_of c.args.expr.now ≡ Paired op a b = search (rules, the_lemmas) in
    omega (arith, ap (λ e. length (written e)) view, length-append (written_term a) (Mark (pair_mark op) ∷ written_term b))

pub width_of-returns-in-Chain : goal.width_of-returns-in-Chain
width_of-returns-in-Chain t c =
    let chain = c.in-Chain in
    let first = term_of chain.first in
    let second = term_of chain.second in
    let others = map term_of chain.others.items in
    let is : expression_of c.args.expr.now
    ≡ operation_of (Chain chain.operator chain.first chain.second chain.others) = search (rules, the_lemmas) in
    let seen : length (written_terms chain.operator (with_others (Two first second) others))
    ≡ length (written (expression_of c.args.expr.now)) =
    ap (λ e. length (written e)) (sym (view-Chain chain.operator chain.first chain.second chain.others) ∙ sym is) in
    let same = ap (λ xs. sum_by tokens_behind (map term_of xs)) c.deref-in-Chain.ensures.value in
    omega (
      arith,
      chain_width chain.operator (Two first second) others,
      seen,
      same,
      length-append (written_term first) (Mark (chain_mark chain.operator) ∷ written_term second),
    )

pub width_of_operand-returns-in-Element : goal.width_of_operand-returns-in-Element
width_of_operand-returns-in-Element t c =
    let name = c.in-Element.name.now in
    let e = expression_of c.in-Element.subscript in
    let view : term_of c.args.operand.now ≡ Element name e = search (rules, the_lemmas) in
    omega (
      arith,
      ap (λ s. length (written_term s)) view,
      length-append (Name name ∷ Mark mark.OpenBracket ∷ written e) (Mark mark.CloseBracket ∷ []),
    )

pub width_of_operand-returns-in-Bracketed : goal.width_of_operand-returns-in-Bracketed
width_of_operand-returns-in-Bracketed t c =
    let e = expression_of c.in-Bracketed.inner in
    let view : term_of c.args.operand.now ≡ Bracketed e = search (rules, the_lemmas) in
    omega (
      arith,
      ap (λ s. length (written_term s)) view,
      length-append (Mark mark.OpenParenthesis ∷ written e) (Mark mark.CloseParenthesis ∷ []),
    )

pub width_of_operand-returns-in-Converted : goal.width_of_operand-returns-in-Converted
width_of_operand-returns-in-Converted t c =
    let to = c.in-Converted.to in
    let seen : term_of c.args.operand.now ≡ Converted to (term_of c.in-Converted.operand.value) =
    search (rules, the_lemmas) in
    omega (
      arith,
      ap (λ s. length (written_term s)) (seen ∙ ap (λ o. Converted to (term_of o)) (sym c.deref.ensures)),
    )
