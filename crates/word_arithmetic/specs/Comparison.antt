-- The six comparisons of two numbers.
use Rattle.std.specs.Prelude.{Bool, not, ℤ, int_lt, int_le}
use Rattle.std.specs.Ordering.{int_eq}
use Rattle.word_arithmetic.specs.declared.compare.Comparison.{Comparison}
use Rattle.word_arithmetic.specs.declared.compare.Comparison.TheVariants.{Equal, NotEqual, Less, LessOrEqual, Greater}
use Rattle.word_arithmetic.specs.declared.compare.Comparison.TheVariants.{GreaterOrEqual}

-- the comparison holds of the two numbers
abbrev pub compares : Comparison → ℤ → ℤ → Bool
compares Equal x y = int_eq x y
compares NotEqual x y = not (int_eq x y)
compares Less x y = int_lt x y
compares LessOrEqual x y = int_le x y
compares Greater x y = int_lt y x
compares GreaterOrEqual x y = int_le y x
