-- Ranges that have numbers: those of the names of a scope, and so those of expressions in it.
use Rattle.std.specs.Prelude.{◌≡◌, ℕ, Bool, true, List, [], ◌∷◌, Ok, Some, FitsSigned}
use Rattle.std.specs.Int.{w32}
use Rattle.word_arithmetic.specs.Range.{IsRange}
use Rattle.occam_parser.specs.Expressions.{Expression}
use Rattle.occam_parser.specs.Lines.{Action, Declaration, Replicator}
use Rattle.occam_parser.specs.Words.{has_words, action_has_words, declaration_has_words, replicator_has_words}
use Rattle.scalar_ranges.specs.Bounds.{Bound, ends, bound_of}
use Rattle.scalar_ranges.specs.Entries.{Meaning, Constant, Scalar, Array, Entry}
use Rattle.scalar_ranges.specs.Moves.{excluded, hulls, outermost, widen}
use Rattle.scalar_ranges.specs.Narrowing.{narrow}
use Rattle.program_uses.specs.Declaring.{add_declaration}
use Rattle.program_uses.specs.Indices.{index_in, repeats_of}
use Rattle.program_uses.specs.Signatures.{Parameter}
use Rattle.program_meaning.specs.Sequential.{IsSequentialAction}
use Rattle.usage_checks.specs.Following.{after_action}

-- A constant is a word. A scalar may be some number of its range, which are words, and so may elements.
abbrev pub HasNumbers : Meaning → Type 0
HasNumbers (Constant type (Some value)) = FitsSigned w32 value
HasNumbers (Scalar kind type range) = IsRange range
HasNumbers (Array kind type size range) = IsRange range
HasNumbers m = Unit {0}

abbrev pub HaveNumbers : List Entry → Type 0
HaveNumbers [] = Unit {0}
HaveNumbers (e ∷ es) = HasNumbers e.meaning × HaveNumbers es

-- In such a scope an expression whose literals are words and bytes may be some number of its bound, if it has one.
abbrev pub BoundsHaveNumbers : Type 0
BoundsHaveNumbers = (es : List Entry) (e : Expression) (b : Bound) → HaveNumbers es → has_words e ≡ true
    → bound_of es e ≡ Ok b → IsRange (ends b)

-- Each move of the walk over a sequential process keeps that, where the literals of what is declared and assigned are
-- words and bytes.
pub record MovesKeepNumbers : Type 0 where
  pub narrowing : (es : List Entry) (e : Expression) (holds : Bool) → HaveNumbers es → HaveNumbers (narrow es e holds)
  pub excluding : (es ds : List Entry) (e : Expression) → HaveNumbers ds → HaveNumbers (excluded e es ds)
  pub widening : (ns : List ℕ) (es : List Entry) → HaveNumbers es → HaveNumbers (widen ns es)
  pub joining : (ds es : List Entry) → HaveNumbers ds → HaveNumbers es → HaveNumbers (hulls ds es)
  pub leaving : (count : ℕ) (es : List Entry) → HaveNumbers es → HaveNumbers (outermost count es)
  pub acting : (signatures : List (List Parameter)) (action : Action) (es : List Entry) → IsSequentialAction action
      → action_has_words action ≡ true → HaveNumbers es → HaveNumbers (after_action signatures action es)
  pub declaring : (d : Declaration) (es : List Entry) → declaration_has_words d ≡ true → HaveNumbers es
      → HaveNumbers (add_declaration d es)
  -- the index of a replicator
  pub indexing : (counted sequential : Bool) (r : Replicator) (es : List Entry) (turn : ℕ)
      → replicator_has_words r ≡ true → HaveNumbers es → HasNumbers (index_in (repeats_of counted es sequential r) turn)
