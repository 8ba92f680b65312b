-- What a number is written as with six digits.
use Rattle.std.proofs.Common.{◌≡◌, ℕ, ◌-◌, ◌^◌, false, [], ◌++◌, length, replicate, ap, append-nil}
use Rattle.std.specs.Fmt.{decimal, padded_integral, format_spec, char_count}
use native.Mathlib.Numerals.{unary_clauses}
use Rattle.fact_texts.specs.Texts.{Text, six_digits}

-- what `{n:06}` writes
pub six_digits_written : (n : ℕ)
    → padded_integral (format_spec 32 0 4 6 (2 ^ 64 - 1)) false [] (decimal n) ≡ six_digits n
unfolding padded_integral char_count
six_digits_written n =
    simp unary_clauses (ap (λ (t : Text). replicate (6 - length (decimal n)) 48 ++ t) (append-nil (decimal n)))
