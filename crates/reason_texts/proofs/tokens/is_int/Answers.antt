use Rattle.std.proofs.Common.{◌≡◌, ◌<◌, ℕ, Bool, true, false, cond, leb, ltb, get_or, Some, None, refl, arith}
use Rattle.std.proofs.lemmas.Bool.Decides.{nat_tests}
use Rattle.occam_layout.proofs.Numbers.{step, is_above}
use Rattle.reason_texts.proofs.tokens.is_int.Goals as goal

none_is : (b : Bool) (n : ℕ) → None ≡ cond b (Some n) None → b ≡ false
none_is true n e = absurd (cc e)
none_is false n e = refl

not_below : (n : ℕ) → leb n 2147483647 ≡ false → false ≡ ltb n 2147483648
not_below n h = grind (arith, nat_tests)

pub returns-then-number-gt2147483647 : goal.returns-then-number-gt2147483647
returns-then-number-gt2147483647 c =
    let digits = c.args.digits.now in
    let over : 2147483647 < step 10 c.loop-digit.number (get_or digits c.loop-digit.digit-index 0) =
    rw (c.from.ensures, c.digit_value.ensures.value) at c.if-number-gt2147483647.true in
    not_below _ (none_is _ _ (is_above 10 2147483647 c.loop-digit.number c.loop-digit.digit-index digits (omega arith)
    c.loop-digit-test.true over c.loop-digit.invariant.1))
