-- Scopes that lie within others: by their names at least as much is known of words.
use Rattle.std.specs.Prelude.{◌≡◌, ⊤, ◌⊎◌, ℕ, Bool, false, List, [], ◌∷◌, length, map, Option, Some, None}
use Rattle.word_arithmetic.specs.Range.{Ends}
use Rattle.occam_parser.specs.Expressions.{Expression}
use Rattle.occam_parser.specs.Lines.{Action}
use Rattle.occam_parser.specs.declared.tree.ValueType.{ValueType}
use Rattle.scalar_ranges.specs.declared.scope.ScalarKind.TheVariants as kinds
use Rattle.scalar_ranges.specs.Entries.{Meaning, Scalar, Entry}
use Rattle.scalar_ranges.specs.MoveLaws.{shape}
use Rattle.scalar_ranges.specs.Moves.{outermost, at_number, with_meaning, ranged, widen, hulls, excluded}
use Rattle.scalar_ranges.specs.Narrowing.{narrow}
use Rattle.program_uses.specs.Signatures.{Parameter}
use Rattle.program_meaning.specs.RangesWithin.{RangeWithin, EntriesWithin}
use Rattle.usage_checks.specs.Following.{after_action}
use Rattle.usage_checks.specs.TypedRanges.{AreInTypes}

-- ---- indices

-- the range of the index of a loop
abbrev pub index_of_loop : Meaning → Option Ends
index_of_loop (Scalar kinds.Index type range) = Some range
index_of_loop m = None

-- those of the names of a scope
abbrev pub indices_of : List Entry → List (Option Ends)
indices_of es = map (λ (e : Entry). index_of_loop e.meaning) es

-- Moves within a scope leave the ranges of indices as they are.
pub record IndicesStay : Type 0 where
  pub narrowing : (es : List Entry) (e : Expression) (holds : Bool) → indices_of (narrow es e holds) ≡ indices_of es
  -- of the entries with which a block around begins
  pub excluding : (es ds : List Entry) (e : Expression) → shape ds ≡ shape (outermost (length ds) es)
      → indices_of (excluded e es ds) ≡ indices_of ds
  pub changing : (n : ℕ) (range : ValueType → Ends) (es : List Entry)
      → indices_of (at_number (with_meaning (ranged range)) n es) ≡ indices_of es
  pub acting : (signatures : List (List Parameter)) (action : Action) (es : List Entry)
      → indices_of (after_action signatures action es) ≡ indices_of es
  pub widening : (ns : List ℕ) (es : List Entry) → indices_of (widen ns es) ≡ indices_of es
  pub joining : (ds es : List Entry) → indices_of ds ≡ indices_of es → indices_of (hulls ds es) ≡ indices_of ds
  pub leaving : (count : ℕ) (ds es : List Entry) → indices_of ds ≡ indices_of es
      → indices_of (outermost count ds) ≡ indices_of (outermost count es)

-- ---- scopes within others

-- the same scalar, which is no index, with a range within the other
abbrev pub IsNarrower : Meaning → Meaning → Type 0
IsNarrower (Scalar kind type r) (Scalar k t s) = (kind ≡ k) × (type ≡ t) × (k ≡ kinds.Index → ⊥) × RangeWithin r s
IsNarrower m n = ⊥

-- of the words of a name at least as much is known
abbrev pub TellsMore : Meaning → Meaning → Type 0
TellsMore m n = (m ≡ n) ⊎ IsNarrower m n

-- so it is entry by entry
abbrev pub LieWithin : List Entry → List Entry → Type 0
LieWithin [] [] = ⊤
LieWithin (d ∷ ds) (e ∷ es) = TellsMore d.meaning e.meaning × LieWithin ds es
LieWithin ds es = ⊥

pub record ScopesLieWithin : Type 0 where
  pub itself : (es : List Entry) → LieWithin es es
  pub further : (ds es fs : List Entry) → LieWithin ds es → LieWithin es fs → LieWithin ds fs
  pub leaving : (count : ℕ) (ds es : List Entry) → LieWithin ds es → LieWithin (outermost count ds) (outermost count es)
  -- what moves leave that change no variable
  pub narrower : (ds es : List Entry) → EntriesWithin [] ds es → indices_of ds ≡ indices_of es → LieWithin ds es
  -- What moves leave that change these variables is within the scope in which they may be any numbers of their types:
  -- so is what is known before a loop, and the same of what is known after its body.
  pub widened : (ns : List ℕ) (ds es : List Entry) → EntriesWithin ns ds es → indices_of ds ≡ indices_of es
      → AreInTypes ds → LieWithin ds (widen ns es)
  pub turned : (ns : List ℕ) (ds es : List Entry) → EntriesWithin ns ds (widen ns es)
      → indices_of ds ≡ indices_of (widen ns es) → AreInTypes ds → LieWithin ds (widen ns es)
  -- both of two ends of branches are within what is known after them
  pub earlier : (ds es : List Entry) → shape ds ≡ shape es → indices_of ds ≡ indices_of es → LieWithin ds (hulls ds es)
  pub this_one : (ds es : List Entry) → shape ds ≡ shape es → indices_of ds ≡ indices_of es → LieWithin es (hulls ds es)

-- ---- choices

-- Where a choice was not taken, what is known of the names around its block is what is known where the further choices
-- begin, whatever names more its test was in.
abbrev pub ExcludedIsNarrowed : Type 0
ExcludedIsNarrowed = (es ds : List Entry) (e : Expression) → outermost (length ds) es ≡ ds
    → outermost (length ds) (narrow es e false) ≡ excluded e es ds
