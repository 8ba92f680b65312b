use Rattle.std.proofs.Common.{◌∙◌, refl, sym}
use Rattle.command_line.proofs.Numbers.{one_more_digit, no_digit, all_digits, digits_of}
use Rattle.command_line.proofs.fitting.number_in.Goals as goal

pub loop-byte-preserved : goal.loop-byte-preserved
loop-byte-preserved c =
    one_more_digit c.loop-byte.number c.in_ok-number.number c.as_bytes-bytes.result.now c.loop-byte.byte-index _
    c.loop-byte-test.true refl c.in_ok-number.ensures c.loop-byte.invariant

pub returns-in_err-number : goal.returns-in_err-number
returns-in_err-number c =
    c.from_residual.ensures
    ∙ no_digit c.loop-byte.number c.as_bytes-bytes.result.now c.loop-byte.byte-index _ c.loop-byte-test.true refl
    c.in_err-number.ensures c.loop-byte.invariant
    ∙ sym (digits_of c.args.text.now c.as_bytes-bytes.result.now c.as_bytes-bytes.ensures.value
    (sym c.is_empty.ensures ∙ c.if-is_empty.false))

pub returns : goal.returns
returns c =
    all_digits c.loop-byte.number c.as_bytes-bytes.result.now c.loop-byte.byte-index c.loop-byte-test.false
    c.loop-byte.invariant
    ∙ sym (digits_of c.args.text.now c.as_bytes-bytes.result.now c.as_bytes-bytes.ensures.value
    (sym c.is_empty.ensures ∙ c.if-is_empty.false))
