use Rattle.std.proofs.Common.{ℕ, ap, arith}
use Rattle.module_builder.specs.Layouts.{offset}
use Rattle.module_builder.specs.Plans.{planned}
use Rattle.module_builder.proofs.Growing.{offset-le-sum}
use Rattle.module_builder.proofs.References.{length-expand, offset-expand}
use Rattle.module_builder.proofs.grown.GrownOffsets.offset.Goals as goal

pub offset-before-requires : goal.offset-before-requires
offset-before-requires c =
    let plan = c.args.self.now.plan.now in
    omega (
      arith,
      c.requires,
      plan.same,
      length-expand plan.fixed.lengths.items plan.counts.lengths.items c.args.self.now.sizes.lengths.items plan.same,
    )

pub offset-requires : goal.offset-requires
offset-requires c =
    let plan = c.args.self.now.plan.now in
    omega (
      arith,
      c.requires,
      length-expand plan.fixed.lengths.items plan.counts.lengths.items c.args.self.now.sizes.lengths.items plan.same,
    )

pub offset-requires-2 : goal.offset-requires-2
offset-requires-2 c =
    omega (arith, c.offset-before.ensures.within, c.args.self.now.plan.now.all, c.args.self.now.fit.each)

pub returns-clause-value : goal.returns-clause-value
returns-clause-value c =
    let plan = c.args.self.now.plan.now in
    let sizes = c.args.self.now.sizes.lengths.items in
    omega (
      arith,
      offset-expand plan.fixed.lengths.items plan.counts.lengths.items sizes c.args.number plan.same,
      c.offset.ensures.value,
      c.offset-2.ensures.value,
      ap (λ (n : ℕ). offset sizes n) c.offset-before.ensures.value,
    )

pub returns-clause-within : goal.returns-clause-within
returns-clause-within c =
    omega (
      arith,
      returns-clause-value c,
      offset-le-sum (planned c.args.self.now.plan.now c.args.self.now.sizes.lengths.items) c.args.number,
    )

pub returns-clause-short : goal.returns-clause-short
returns-clause-short c =
    omega (arith, c.args.self.now.fit.short, c.offset.ensures.within, c.offset-2.ensures.within)
