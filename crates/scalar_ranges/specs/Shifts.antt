-- The shifts that the program has, as functions of words and of ranges.
use Rattle.std.specs.Prelude.{ℕ, ℤ}
use Rattle.word_arithmetic.specs.Word.{shifted_left, shifted_right}
use Rattle.word_arithmetic.specs.Range.{Ends, shift_left_range}
use Rattle.scalar_ranges.specs.Bounds.{right_range}
use Rattle.scalar_ranges.specs.declared.results.Shift.{Shift}
use Rattle.scalar_ranges.specs.declared.results.Shift.TheVariants as shift

abbrev pub shifted_word : Shift → ℤ → ℕ → ℤ
shifted_word shift.Left = shifted_left
shifted_word shift.Right = shifted_right

abbrev pub shift_range : Shift → Ends → Ends → Ends
shift_range shift.Left = shift_left_range
shift_range shift.Right = right_range
