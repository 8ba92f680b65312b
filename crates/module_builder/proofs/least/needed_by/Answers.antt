use Rattle.std.proofs.Common.{pos, arith}
use Rattle.prefix_decoder.specs.declared.function.Fun.TheVariants.{Jump}
use Rattle.module_builder.specs.declared.item.Operand.TheVariants.{Number}
use Rattle.module_builder.specs.declared.item.Item.TheVariants.{Instruction}
use Rattle.module_builder.specs.declared.plan.Reference.{Reference}
use Rattle.module_builder.proofs.References.{reference_at, needed_more_references}
use Rattle.module_builder.proofs.least.needed_by.Goals as goal

-- where a loop reads past the end
abbrev none : Reference
none = record { next = 0; item = Instruction Jump (Number (pos 0)) }

pub offset-end-requires : goal.offset-end-requires
offset-end-requires g c =
    let here =
    reference_at c.args.code.now c.args.references.now c.loop-reference.reference-index none c.requires.complete
    c.requires.references c.loop-reference-test.true in
    omega (arith, here.within, c.requires.count)

pub bytes_of-requires-clause-placed : goal.bytes_of-requires-clause-placed
bytes_of-requires-clause-placed g c =
    let here =
    reference_at c.args.code.now c.args.references.now c.loop-reference.reference-index none c.requires.complete
    c.requires.references c.loop-reference-test.true in
    here.holds

pub loop-reference-preserved : goal.loop-reference-preserved
loop-reference-preserved g c =
    needed_more_references c.args.code.now (g.P.Offsets.lengths c.args.places.now) c.args.references.now
    c.loop-reference.reference-index c.offset-end.result c.bytes_of.result none c.loop-reference.needed.items
    c.push.new.self.items c.loop-reference-test.true c.offset-end.ensures.value c.bytes_of.ensures
    c.loop-reference.invariant c.in_ok-push.ensures.items
