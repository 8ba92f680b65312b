-- What the code of a whole expression leaves known: of a number exactly the range of its bound, and of a condition that
-- it is 0, 1 or either.
use Rattle.std.specs.Prelude.{◌≡◌, ℕ, ◌≤◌, Bool, true, List, Option, Ok}
use Rattle.word_arithmetic.specs.Range.{Ends, IsRange, truths}
use Rattle.occam_parser.specs.Expressions.{Expression}
use Rattle.occam_parser.specs.Words.{has_words}
use Rattle.scalar_ranges.specs.declared.types.ExprType.{ExprType}
use Rattle.scalar_ranges.specs.declared.types.ExprType.TheVariants as types
use Rattle.scalar_ranges.specs.Bounds.{Bound, Within, ends, bound_of}
use Rattle.scalar_ranges.specs.Entries.{Entry}
use Rattle.scalar_ranges.specs.Types.{type_of}
use Rattle.code_pieces.specs.Pieces.{Piece}
use Rattle.line_pieces.specs.Expressions.{expression_code, is_leaf, is_small}
use Rattle.certified_lines.specs.Scopes.{Scene, IsScope}
use Rattle.certified_lines.specs.Telling.{Tells, IsFree, truth_range}

-- The range of what is left in A: of a number it is that of its bound, and of a condition what is known of its truth.
abbrev pub IsRangeOf : ExprType → Bound → Ends → Type 0
IsRangeOf types.Int b r = r ≡ ends b
IsRangeOf types.Byte b r = r ≡ ends b
IsRangeOf types.Condition b r = (b ≡ Within truths) × (holds : Option Bool) × (r ≡ truth_range holds)

-- Wherever words are free, code leaves in A what has this range.
pub record IsTold (g : Scene) (top : ℕ) (es : List Entry) (code : ℕ → List Piece) (leaf small : Bool)
    (type : ExprType) (b : Bound) : Type 0 where
  pub range : Ends
  pub is : IsRangeOf type b range
  pub ranged : IsRange range
  pub tells : (t : ℕ) → top ≤ t → IsFree t → Tells g es (code t) t leaf small range

-- so does the code of an expression
abbrev pub ExpressionTells : Scene → (top : ℕ) → List Entry → Expression → ExprType → Bound → Type 0
ExpressionTells g top es e type b =
    IsTold g top es (λ t. expression_code g.homes es t e) (is_leaf es e) (is_small es e) type b

-- where it is well typed, and its bound is there
abbrev pub ExpressionsTell : Type 0
ExpressionsTell = (g : Scene) (top : ℕ) (es : List Entry) (e : Expression) (type : ExprType) (b : Bound)
    → IsScope g top es → has_words e ≡ true → type_of es e ≡ Ok type → bound_of es e ≡ Ok b
    → ExpressionTells g top es e type b
