use Rattle.std.proofs.Common.{◌≡◌, pos, length, ap, ◌∙◌, arith}
use Rattle.prefix_decoder.specs.declared.function.Fun.TheVariants.{Jump}
use Rattle.module_builder.specs.declared.item.Operand.TheVariants.{Number}
use Rattle.module_builder.specs.declared.item.Item.TheVariants.{Instruction}
use Rattle.module_builder.proofs.Growing.{length-bytes_from}
use Rattle.module_builder.proofs.Spelled.{spelled_more}
use Rattle.module_builder.proofs.spelling.spell.Goals as goal

pub loop-number-preserved : goal.loop-number-preserved
loop-number-preserved c =
    spelled_more c.args.draft.now.code c.in_ok-spacing.spacing.lengths.items c.items-item-items.result.now
    c.loop-number.number
    c.offset.result (Instruction Jump (Number (pos 0))) c.loop-number.bytes.items c.push_item.new.bytes.items
    c.loop-number-test.true c.offset.ensures.value c.loop-number.invariant c.in_ok-push_item.ensures

pub push_item-requires-clause-count : goal.push_item-requires-clause-count
push_item-requires-clause-count c =
    ap length
    (c.in_ok-spacing.ensures.same ∙ c.in_ok-lengths.ensures.items ∙ c.deref.ensures.value ∙ c.requires.fits.exact)
    ∙ length-bytes_from c.args.draft.now.code c.args.layout.now.lengths.items 0 c.args.draft.now.code.items

pub offset-requires : goal.offset-requires
offset-requires c =
    let count : length c.in_ok-spacing.spacing.lengths.items ≡ length c.args.draft.now.code.items =
    ap length
    (c.in_ok-spacing.ensures.same ∙ c.in_ok-lengths.ensures.items ∙ c.deref.ensures.value ∙ c.requires.fits.exact)
    ∙ length-bytes_from c.args.draft.now.code c.args.layout.now.lengths.items 0 c.args.draft.now.code.items in
    omega (arith, ap length c.items-item-items.ensures)
