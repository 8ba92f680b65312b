use Rattle.std.proofs.Common.{◌<◌}
use Rattle.std.proofs.Common.{get_or}
use Rattle.occam_layout.proofs.Numbers.{step, is_above}
use Rattle.occam_layout.proofs.scan.number_of.Goals as goal

pub returns-then-number-from : goal.returns-then-number-from
returns-then-number-from c =
    let digits = c.args.digits.now in
    let over : c.args.max < step c.args.base c.loop-digit.number (get_or digits c.loop-digit.digit-index 0) =
    rw (c.from-in-loop-digit-2.ensures, c.from.ensures, c.from-in-loop-digit.ensures, c.digit_value.ensures.value) at
    c.if-number-from.true in
    is_above c.args.base c.args.max c.loop-digit.number c.loop-digit.digit-index digits c.requires.low
    c.loop-digit-test.true over c.loop-digit.invariant.1
