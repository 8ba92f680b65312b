use Rattle.std.proofs.Common.{◌&&◌, arith, ◌∙◌, rules}
use Rattle.occam_parser.specs.declared.tree.Operand.TheFolds.{the_lemmas}
use Rattle.occam_parser.specs.Views.{expression_of}
use Rattle.scalar_ranges.specs.Scopes.{entries_of}
use Rattle.usage_checks.proofs.ConstantOperands.{constant_none, constant_next, chain_constant}
use Rattle.usage_checks.proofs.wanting.+constant.Goals as goal

pub is_constant-loop-other-init : goal.is_constant-loop-other-init
is_constant-loop-other-init t c = constant_none (entries_of c.args.scope.now) c.both-constant.result

pub is_constant-loop-other-preserved : goal.is_constant-loop-other-preserved
is_constant-loop-other-preserved t c =
    constant_next (entries_of c.args.scope.now) c.both-constant.result c.loop-other.constant
    c.is_constant_operand-in-loop-other.result c.both-constant-in-loop-other.result c.deref-other-items.result.now
    c.loop-other.other-index c.other-item.result c.other-item.result (omega arith) c.other-item.is
    c.loop-other.invariant c.is_constant_operand-in-loop-other.ensures c.both-constant-in-loop-other.ensures

pub is_constant-returns-after-loop-other : goal.is_constant-returns-after-loop-other
is_constant-returns-after-loop-other t c =
    let chain = c.in-Chain in
    let begun = c.both-constant.ensures
    ∙ (λ i. c.is_constant_operand-first.ensures i && c.is_constant_operand-in-Chain.ensures i) in
    chain_constant (entries_of c.args.scope.now) chain.operator chain.first chain.second chain.others
    c.deref-other-items.result.now c.loop-other.other-index (expression_of c.args.expr.now) c.both-constant.result
    c.loop-other.constant (omega arith) c.deref-other-items.ensures.value (search (rules, the_lemmas)) begun
    c.loop-other.invariant
