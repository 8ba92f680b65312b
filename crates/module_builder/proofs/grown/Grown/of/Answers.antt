use Rattle.std.proofs.Common.{◌≡◌, sum, ap, arith, ◌∙◌, Err}
use Rattle.std.proofs.lemmas.Result.{err_from_is_err_and}
use Rattle.module_builder.specs.declared.fault.GenFault.TheVariants.{Limit}
use Rattle.module_builder.proofs.References.{sum-expand}
use Rattle.module_builder.proofs.grown.Grown.of.Goals as goal

pub returns-in_err-sizes-clause-limit : goal.returns-in_err-sizes-clause-limit
returns-in_err-sizes-clause-limit c = λ is.
    let plan = c.args.plan.now in
    let told = err_from_is_err_and c.from_residual.result c.from_residual.ensures.1 in
    let limit : Err c.in_err-sizes.field-0.0 ≡ Err Limit = cc in
    omega (
      arith,
      c.in_err-sizes.ensures.limit limit,
      sum-expand plan.fixed.lengths.items plan.counts.lengths.items c.args.sizes.items plan.same
          (c.requires ∙ plan.all),
    )

pub returns-then-end-gt-MAX_LONG_CODE-clause-limit : goal.returns-then-end-gt-MAX_LONG_CODE-clause-limit
returns-then-end-gt-MAX_LONG_CODE-clause-limit c = λ is.
    let plan = c.args.plan.now in
    omega (
      arith,
      ap sum c.in_ok-sizes.ensures.same,
      sum-expand plan.fixed.lengths.items plan.counts.lengths.items c.args.sizes.items plan.same
          (c.requires ∙ plan.all),
    )
