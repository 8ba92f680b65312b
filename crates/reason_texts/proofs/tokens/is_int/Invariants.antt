use Rattle.std.proofs.Common.{◌≡◌, ◌≤◌, ◌*◌, ◌+◌, drop, fold}
use Rattle.std.specs.Char.{digit_value}
use Rattle.occam_layout.specs.Reading.{value}
use Rattle.reason_texts.proofs.tokens.is_int.Given as goal

abbrev pub invariant-loop-digit : goal.invariant-loop-digit
invariant-loop-digit l = (l.number ≤ 2147483647) ×
    (fold (λ n digit. n * 10 + digit_value digit) l.number (drop l.digit-index l.digits) ≡ value 10 l.digits)
