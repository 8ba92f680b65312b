-- Scopes whose ranges lie within those of another one, but for variables that were changed.
use Rattle.std.specs.Prelude.{◌≡◌, ◌≤ℤ◌, ◌⊎◌, ℕ, true, Bool, List, [], ◌∷◌, length}
use Rattle.word_arithmetic.specs.Range.{Ends}
use Rattle.occam_parser.specs.Expressions.{Expression}
use Rattle.scalar_ranges.specs.declared.scope.ScalarKind.TheVariants as kinds
use Rattle.scalar_ranges.specs.Entries.{Meaning, Scalar, Entry}
use Rattle.scalar_ranges.specs.Narrowing.{narrow}
use Rattle.program_uses.specs.Mentions.{variable_in}
use Rattle.scalar_ranges.specs.Moves.{is_one_of, outermost, at_number, with_meaning, assign, widened, widen, hulls}
use Rattle.scalar_ranges.specs.Moves.{taken, excluded}
use Rattle.scalar_ranges.specs.MoveLaws.{shape}

-- Both ends lie between those of the other range. Of an empty range more is said so than by its members.
abbrev pub RangeWithin : Ends → Ends → Type 0
RangeWithin r s = (s.lo ≤ℤ r.lo) × (r.hi ≤ℤ s.hi)

-- the same scalar with a range within the other, or a variable that may have any
abbrev pub ScalarWithin : Bool → Meaning → Meaning → Type 0
ScalarWithin free (Scalar kind type r) (Scalar k t s) =
    (kind ≡ k) × (type ≡ t) × (RangeWithin r s ⊎ ((free ≡ true) × (k ≡ kinds.Variable)))
ScalarWithin free m n = ⊥

abbrev pub MeaningWithin : Bool → Meaning → Meaning → Type 0
MeaningWithin free m n = (m ≡ n) ⊎ ScalarWithin free m n

-- Entry by entry the names are the same, and the meanings are within; the variables with these numbers are free.
abbrev pub EntriesWithin : List ℕ → List Entry → List Entry → Type 0
EntriesWithin ns [] [] = Unit {0}
EntriesWithin ns (d ∷ ds) (e ∷ es) =
    (d.name ≡ e.name) × MeaningWithin (is_one_of ns (length es)) d.meaning e.meaning × EntriesWithin ns ds es
EntriesWithin ns ds es = ⊥

-- What moves leave of ranges is within what they were, but for variables that are changed; so it is of what several
-- moves leave, one after the other.
pub record MovesStayWithin : Type 0 where
  pub same : (ns : List ℕ) (es : List Entry) → EntriesWithin ns es es
  pub further : (ns : List ℕ) (ds es fs : List Entry) → EntriesWithin ns ds es → EntriesWithin ns es fs
      → EntriesWithin ns ds fs
  pub more : (ns ms : List ℕ) (ds es : List Entry) → ((n : ℕ) → is_one_of ns n ≡ true → is_one_of ms n ≡ true)
      → EntriesWithin ns ds es → EntriesWithin ms ds es
  pub narrowing : (ns : List ℕ) (es : List Entry) (e : Expression) (holds : Bool)
      → EntriesWithin ns (narrow es e holds) es
  pub assigning : (n : ℕ) (range : Ends) (es : List Entry) → EntriesWithin (n ∷ []) (assign n range es) es
  pub excluding : (ns : List ℕ) (es ds : List Entry) (e : Expression) → EntriesWithin ns (excluded e es ds) ds
  pub receiving : (n : ℕ) (es : List Entry) → EntriesWithin (n ∷ []) (at_number (with_meaning widened) n es) es
  pub widening : (ns : List ℕ) (es : List Entry) → EntriesWithin ns (widen ns es) es
  pub taking : (ns ms : List ℕ) (ds es fs : List Entry) → EntriesWithin ns ds fs → EntriesWithin ns es fs
      → EntriesWithin ns (taken ms ds es) fs
  pub joining : (ns : List ℕ) (ds es fs : List Entry) → EntriesWithin ns ds fs → EntriesWithin ns es fs
      → EntriesWithin ns (hulls ds es) fs
  pub leaving : (ns : List ℕ) (count : ℕ) (ds es : List Entry) → EntriesWithin ns ds es
      → EntriesWithin ns (outermost count ds) (outermost count es)
  -- a name denotes the same variable, if it denotes one
  pub variables : (ns : List ℕ) (ds es : List Entry) (name : List ℕ) → EntriesWithin ns ds es
      → variable_in name ds ≡ variable_in name es
  -- names and meanings are the same but for ranges
  pub shapes : (ns : List ℕ) (ds es : List Entry) → EntriesWithin ns ds es → shape ds ≡ shape es
