use Rattle.std.proofs.Common.{◌≡◌, ◌≤◌, length, arith, ap, sym, ◌∙◌, rules}
use Rattle.occam_parser.specs.declared.tree.Operand.TheFolds.{the_lemmas}
use Rattle.occam_parser.specs.declared.tree.Operation.{Chain}
use Rattle.occam_parser.specs.Views.{expression_of, operation_of}
use Rattle.occam_parser.proofs.Seen.{view-Chain}
use Rattle.scalar_ranges.specs.BoundViews.{all_known}
use Rattle.scalar_ranges.specs.Scopes.{entries_of}
use Rattle.scalar_ranges.specs.Types.{types_in, type_of}
use Rattle.scalar_ranges.specs.Bounds.{bounds_in, bound_of}
use Rattle.scalar_ranges.proofs.Chains.{chain_step, chain_end}
use Rattle.scalar_ranges.proofs.reading.+read.Goals as goal

pub read-loop-other-preserved : goal.read-loop-other-preserved
read-loop-other-preserved t c =
    let es = entries_of c.args.scope.now in
    let op = c.in-Chain.operator in
    let next = c.read_operand-in-loop-other in
    record {
      types = chain_step (types_in es) op c.combined-found.result.expr_type c.loop-other.found.expr_type
          c.combined-found-in-loop-other.result.expr_type next.result.expr_type c.deref-other-items.result.now
          c.loop-other.other-index c.other-item.result (omega arith) c.other-item.is c.loop-other.invariant.types
          next.ensures.types c.combined-found-in-loop-other.ensures.types;
      bounds = chain_step (bounds_in es) op (all_known c.combined-found.result.bound)
          (all_known c.loop-other.found.bound) (all_known c.combined-found-in-loop-other.result.bound)
          (all_known next.result.bound) c.deref-other-items.result.now c.loop-other.other-index c.other-item.result
          (omega arith) c.other-item.is c.loop-other.invariant.bounds next.ensures.bounds
          c.combined-found-in-loop-other.ensures.bounds;
    }

pub read-returns-after-loop-other : goal.read-returns-after-loop-other
read-returns-after-loop-other t c =
    let es = entries_of c.args.scope.now in
    let chain = c.in-Chain in
    let first = c.read_operand-first in
    let second = c.read_operand-in-Chain in
    let done : length c.deref-other-items.result.now ≤ c.loop-other.other-index = omega arith in
    let view : expression_of c.args.expr.now
    ≡ operation_of (Chain c.in-Chain.operator c.in-Chain.first c.in-Chain.second c.in-Chain.others) =
    search (rules, the_lemmas) in
    let whole = sym (view-Chain chain.operator chain.first chain.second chain.others) ∙ sym view in
    record {
      types = chain_end (types_in es) chain.operator chain.first chain.second chain.others.items
          c.deref-other-items.result.now first.result.expr_type second.result.expr_type
          c.combined-found.result.expr_type c.loop-other.found.expr_type c.loop-other.other-index done
          c.deref-other-items.ensures.value first.ensures.types second.ensures.types c.combined-found.ensures.types
          c.loop-other.invariant.types
          ∙ ap (type_of es) whole;
      bounds = chain_end (bounds_in es) chain.operator chain.first chain.second chain.others.items
          c.deref-other-items.result.now (all_known first.result.bound) (all_known second.result.bound)
          (all_known c.combined-found.result.bound) (all_known c.loop-other.found.bound) c.loop-other.other-index done
          c.deref-other-items.ensures.value first.ensures.bounds second.ensures.bounds c.combined-found.ensures.bounds
          c.loop-other.invariant.bounds
          ∙ ap (bound_of es) whole;
    }
