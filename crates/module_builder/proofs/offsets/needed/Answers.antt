use Rattle.std.proofs.Common.{pos}
use Rattle.prefix_decoder.specs.declared.function.Fun.TheVariants.{Jump}
use Rattle.module_builder.specs.declared.item.Operand.TheVariants.{Number}
use Rattle.module_builder.specs.declared.item.Item.TheVariants.{Instruction}
use Rattle.module_builder.proofs.Growing.{needed_more}
use Rattle.module_builder.proofs.offsets.needed.Goals as goal

pub loop-number-preserved : goal.loop-number-preserved
loop-number-preserved g c =
    needed_more c.args.code.now (g.P.Offsets.lengths c.args.places.now) c.items-items.result.now c.loop-number.number
    c.offset.result c.bytes_of.result (Instruction Jump (Number (pos 0))) c.loop-number.needed.items
    c.push.new.self.items
    c.loop-number-test.true c.offset.ensures.value c.bytes_of.ensures c.loop-number.invariant c.in_ok-push.ensures.items
