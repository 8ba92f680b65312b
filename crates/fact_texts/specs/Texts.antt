-- Texts, as their bytes.
use Rattle.std.specs.Prelude.{ℕ, ◌-◌, int_le, ◌&&◌, Bool, ℤ, if◌then◌else◌, List, ◌++◌, length, replicate, codes}
use Rattle.std.specs.Fmt.{decimal, signed_decimal}

abbrev pub Text : Type 0
Text = List ℕ

-- the decimal digits, after zeros up to six digits
abbrev pub six_digits : ℕ → Text
six_digits n = replicate (6 - length (decimal n)) 48 ++ decimal n

-- the ends are one number
abbrev pub is_one : ℤ → ℤ → Bool
is_one lo hi = int_le lo hi && int_le hi lo

-- a range from its least to its greatest number, or the one number that it has
abbrev pub range_text : ℤ → ℤ → Text
range_text lo hi =
    if is_one lo hi then signed_decimal lo else signed_decimal lo ++ (codes ".." ++ signed_decimal hi)
