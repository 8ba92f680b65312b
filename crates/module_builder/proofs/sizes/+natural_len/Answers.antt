use Rattle.std.proofs.Common.{ℕ, arith}
use Rattle.module_builder.proofs.Lengths.{natural_is, natural_most}
use Rattle.module_builder.proofs.sizes.+natural_len.Goals as goal

pub returns-else-operand-lt16-clause-value : goal.returns-else-operand-lt16-clause-value
returns-else-operand-lt16-clause-value t c = λ (code : ℕ).
    natural_is c.args.operand c.natural_len.result code (c.ranges.operand.fits) c.if-operand-lt16.false
    (c.natural_len.ensures.value code)

pub returns-else-operand-lt16-clause-small : goal.returns-else-operand-lt16-clause-small
returns-else-operand-lt16-clause-small t c =
    omega (
      arith,
      natural_is c.args.operand c.natural_len.result 0 (c.ranges.operand.fits) c.if-operand-lt16.false
          (c.natural_len.ensures.value 0),
      natural_most 7 0 c.args.operand,
    )
