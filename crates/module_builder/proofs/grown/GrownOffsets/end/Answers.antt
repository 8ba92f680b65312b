use Rattle.std.proofs.Common.{arith, ◌∙◌}
use Rattle.module_builder.proofs.References.{sum-expand}
use Rattle.module_builder.proofs.grown.GrownOffsets.end.Goals as goal

pub returns-clause-value : goal.returns-clause-value
returns-clause-value c =
    let plan = c.args.self.now.plan.now in
    let grown = c.args.self.now in
    omega (
      arith,
      sum-expand plan.fixed.lengths.items plan.counts.lengths.items grown.sizes.lengths.items plan.same
          (grown.fit.each ∙ plan.all),
      c.end.ensures.value,
      c.end-2.ensures.value,
    )
