-- Ranges lie within the types of what they are ranges of.
use Rattle.std.specs.Prelude.{◌≡◌, true, List, [], ◌∷◌, Some}
use Rattle.word_arithmetic.specs.Range.{InRange}
use Rattle.occam_parser.specs.Blocks.{ProgramItem}
use Rattle.occam_parser.specs.Words.{items_have_words}
use Rattle.scalar_ranges.specs.Entries.{Meaning, Constant, Scalar, Array, Entry, type_range}
use Rattle.scalar_ranges.specs.Moves.{Known}
use Rattle.program_meaning.specs.RangesWithin.{RangeWithin}
use Rattle.usage_checks.specs.ItemRules.{BreaksNoRule}
use Rattle.usage_checks.specs.Reaching.{Standing, Piece, Reaches}

-- the value of a constant is a number of its type, and the range of a scalar or of elements is within that of theirs
abbrev pub IsInType : Meaning → Type 0
IsInType (Constant type (Some value)) = InRange (type_range type) value
IsInType (Scalar kind type range) = RangeWithin range (type_range type)
IsInType (Array kind type size range) = RangeWithin range (type_range type)
IsInType m = Unit {0}

abbrev pub AreInTypes : List Entry → Type 0
AreInTypes [] = Unit {0}
AreInTypes (e ∷ es) = IsInType e.meaning × AreInTypes es

-- At each place that the walk over such a program reaches, each range lies within its type.
abbrev pub RangesAreTyped : Type 0
RangesAreTyped = (items : List ProgramItem) (s : Standing) (piece : Piece) (k : Known) → BreaksNoRule items
    → items_have_words items ≡ true → Reaches items s piece k → AreInTypes k.entries
