use Rattle.std.proofs.Common.{◌+◌, pos, ap, ◌∙◌, get_or, arith}
use Rattle.prefix_decoder.specs.declared.function.Fun.TheVariants.{Jump}
use Rattle.module_builder.specs.declared.item.Operand.TheVariants.{Number}
use Rattle.module_builder.specs.declared.item.Item.{Item}
use Rattle.module_builder.specs.declared.item.Item.TheVariants.{Instruction}
use Rattle.module_builder.proofs.References.{references_more, reference_taken, no_reference}
use Rattle.module_builder.proofs.plan.references.Goals as goal
use Rattle.module_builder.proofs.plan.references.Goals.{then-reference_count-gt0+in_ok-push, else-reference_count-gt0}

-- where a loop reads past the end
abbrev none : Item
none = Instruction Jump (Number (pos 0))

pub loop-number-preserved : goal.loop-number-preserved
loop-number-preserved c =
    let items = c.args.items.now in
    let i = c.loop-number.number in
    let item = get_or items i none in
    let before = c.loop-number.references.items in
    let after = c.if-reference_count-gt0.references.items in
    elim c.if-reference_count-gt0.branch [
      | then-reference_count-gt0+in_ok-push w ↦
          references_more items i none before after c.loop-number-test.true c.loop-number.invariant
          (reference_taken (i + 1) item before after
          (omega (arith, w.if-reference_count-gt0.true, c.reference_count.ensures))
          (ap (λ v. v.items) w.references-is ∙ w.in_ok-push.ensures.items))
      | else-reference_count-gt0 w ↦
          references_more items i none before after c.loop-number-test.true c.loop-number.invariant
          (no_reference (i + 1) item before after
          (omega (arith, w.if-reference_count-gt0.false, c.reference_count.ensures))
          (ap (λ v. v.items) w.references-is))
    ]
