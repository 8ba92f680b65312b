use Rattle.std.proofs.Common.{rules}
use Rattle.occam_parser.specs.declared.tree.Operand.TheFolds.{the_lemmas}
use Rattle.occam_parser.specs.Views.{expression_of}
use Rattle.scalar_ranges.specs.Scopes.{entries_of}
use Rattle.line_pieces.proofs.RegistersCounted.{chain_small}
use Rattle.line_pieces.proofs.expressions.+small.Goals as goal

pub is_small-returns-in-Chain : goal.is_small-returns-in-Chain
is_small-returns-in-Chain t c =
    let chain = c.in-Chain in
    chain_small (entries_of c.args.scope.now) chain.operator chain.first chain.second chain.others
    c.deref-in-Chain.result.now (expression_of c.args.expr.now) c.is_small_term-first-in-Chain.result
    c.is_leaf_term-second-in-Chain.result c.are_leaves-others.result c.all_three.result
    c.deref-in-Chain.ensures.value (search (rules, the_lemmas)) c.is_small_term-first-in-Chain.ensures
    c.is_leaf_term-second-in-Chain.ensures c.are_leaves-others.ensures c.all_three.ensures
