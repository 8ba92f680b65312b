use Rattle.std.proofs.Common.{◌∙◌, ap, length, take, arith}
use Rattle.std.proofs.lemmas.List.{take_all}
use Rattle.std.proofs.lemmas.List.Sorted.{length_permutation}
use Rattle.module_builder.proofs.RowLaws.{numbered_more, length-numbered}
use Rattle.module_builder.proofs.ordering.order_of.Goals as goal

pub loop-number-preserved : goal.loop-number-preserved
loop-number-preserved c =
    numbered_more c.args.keys.now c.loop-number.number 0 c.loop-number.order.items c.push.new.self.items
    c.loop-number-test.true c.loop-number.invariant c.in_ok-push.ensures.items

pub returns-clause-len : goal.returns-clause-len
returns-clause-len c =
    length_permutation c.loop-number.order.items c.sort.new.self.items c.in_ok-sort.ensures.permutation
    ∙ ap length c.loop-number.invariant
    ∙ length-numbered 0 (take c.loop-number.number c.args.keys.now)
    ∙ ap length (take_all c.loop-number.number c.args.keys.now (omega arith))
