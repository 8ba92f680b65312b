use Rattle.std.proofs.Common.{◌≡◌, map, sum_by, arith, ap, sym, ◌∙◌, rules}
use Rattle.occam_parser.specs.declared.tree.Operand.TheFolds.{the_lemmas}
use Rattle.occam_parser.specs.declared.tree.Operation.{Chain}
use Rattle.occam_parser.specs.Expressions.{Two}
use Rattle.occam_parser.specs.Views.{expression_of, operation_of, term_of, with_others}
use Rattle.occam_parser.proofs.Seen.{view-Chain}
use Rattle.program_sizes.specs.LineSizes.{size_of_expression, size_of_terms}
use Rattle.program_sizes.proofs.ChainSize.{further_size, chain_size}
use Rattle.program_sizes.proofs.sizes.+size.Goals as goal

pub size_of_expression-returns-in-Chain : goal.size_of_expression-returns-in-Chain
size_of_expression-returns-in-Chain t c =
    let chain = c.in-Chain in
    let both = Two (term_of chain.first) (term_of chain.second) in
    let others = map term_of chain.others.items in
    let is : expression_of c.args.expr.now
    ≡ operation_of (Chain chain.operator chain.first chain.second chain.others) = search (rules, the_lemmas) in
    let seen : size_of_terms (with_others both others) ≡ size_of_expression (expression_of c.args.expr.now) =
    ap size_of_expression (sym (view-Chain chain.operator chain.first chain.second chain.others) ∙ sym is) in
    let same = ap (λ xs. sum_by further_size (map term_of xs)) c.deref-in-Chain.ensures.value in
    omega (arith, chain_size both others, seen, same)
