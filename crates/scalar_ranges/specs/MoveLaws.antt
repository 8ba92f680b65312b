-- What each move keeps: where an environment meets the scope and does what the move says, it meets the scope after it.
use Rattle.std.specs.Prelude.{◌≡◌, ℕ, Bool, true, false, List, [], ◌∷◌, length, nat_eq, if◌then◌else◌, Option, Some}
use Rattle.std.specs.Prelude.{None, Ok}
use Rattle.word_arithmetic.specs.Range.{Ends, full}
use Rattle.occam_parser.specs.Expressions.{Expression}
use Rattle.scalar_ranges.specs.Entries.{Meaning, Entry}
use Rattle.scalar_ranges.specs.Environments.{Held, Environment, IsHeld, Meets}
use Rattle.scalar_ranges.specs.declared.types.ExprType.{ExprType}
use Rattle.scalar_ranges.specs.Types.{type_of}
use Rattle.scalar_ranges.specs.Values.{truth_of}
use Rattle.scalar_ranges.specs.Narrowing.{with_range, narrow}
use Rattle.scalar_ranges.specs.Moves.{outermost, at_number, with_meaning, assign, widened, is_one_of, widen}
use Rattle.scalar_ranges.specs.Moves.{hulls, taken, ends_with, excluded}

-- ---- names

-- What is declared holds what its meaning says.
abbrev pub DeclaringHolds : Type 0
DeclaringHolds = (es : List Entry) (env : Environment) (name : List ℕ) (m : Meaning) (h : Held) → Meets env es
    → IsHeld m h → Meets (record { name = name; held = h } ∷ env) (record { name = name; meaning = m } ∷ es)

abbrev pub LeavingHolds : Type 0
LeavingHolds = (es : List Entry) (env : Environment) (count : ℕ) → Meets env es
    → Meets (outermost count env) (outermost count es)

-- ---- variables

-- the binding with this number, counted from the outermost one, holds something else
abbrev pub put : ℕ → Held → Environment → Environment
put n h env = at_number (λ b. record { name = b.name; held = h }) n env

abbrev pub meaning_at : ℕ → List Entry → Option Meaning
meaning_at n [] = None
meaning_at n (e ∷ es) = if nat_eq (length es) n then Some e.meaning else meaning_at n es

-- What is changed holds what its meaning says then: a number is assigned to a variable, or received.
abbrev pub ChangingHolds : Type 0
ChangingHolds = (es : List Entry) (env : Environment) (n : ℕ) (f : Meaning → Meaning) (m : Meaning) (h : Held)
    → Meets env es → meaning_at n es ≡ Some m → IsHeld (f m) h → Meets (put n h env) (at_number (with_meaning f) n es)

-- The same of what a scope knows nothing more of, as an element of an array.
abbrev pub HoldingHolds : Type 0
HoldingHolds = (es : List Entry) (env : Environment) (n : ℕ) (m : Meaning) (h : Held) → Meets env es
    → meaning_at n es ≡ Some m → IsHeld m h → Meets (put n h env) es

-- what is held after some variables were changed, each to a number of its type
abbrev pub IsHeldAfter : Bool → Meaning → Held → Held → Type 0
IsHeldAfter false m old new = new ≡ old
IsHeldAfter true m old new = IsHeld (widened m) new

-- Of the first environment the variables with these numbers were changed, and then it is the second one.
abbrev pub IsChanged : List ℕ → List Entry → Environment → Environment → Type 0
IsChanged ns [] [] [] = Unit {0}
IsChanged ns (e ∷ es) (b ∷ bs) (c ∷ cs) =
    (c.name ≡ b.name) × IsHeldAfter (is_one_of ns (length es)) e.meaning b.held c.held × IsChanged ns es bs cs
IsChanged ns es bs cs = ⊥

abbrev pub WideningHolds : Type 0
WideningHolds = (es : List Entry) (env new : Environment) (ns : List ℕ) → Meets env es → IsChanged ns es env new
    → Meets new (widen ns es)

-- ---- branches

-- both have the same names, which mean the same but for the ranges of scalars
abbrev pub shape : List Entry → List Entry
shape [] = []
shape (e ∷ es) = record { name = e.name; meaning = with_range (λ r. full) e.meaning } ∷ shape es

-- An environment that meets the end of a branch meets what is known after it and after each further branch.
pub record BranchesHold : Type 0 where
  pub this_one : (ends : Option (List Entry)) (es : List Entry) (env : Environment)
      → ((ds : List Entry) → ends ≡ Some ds → shape ds ≡ shape es) → Meets env es → Meets env (ends_with ends es)
  pub earlier_ones : (ds es : List Entry) (env : Environment) → Meets env ds → Meets env (ends_with (Some ds) es)

-- Where a choice begins whose condition does not hold, the environment around the block meets what is known where the
-- further choices begin. From the entries themselves, excluding a condition is narrowing where it does not hold.
pub record ExcludingHolds : Type 0 where
  pub further : (es ds : List Entry) (env : Environment) (e : Expression) (t : ExprType) → Meets env es
      → Meets (outermost (length ds) env) ds → type_of es e ≡ Ok t → truth_of env e ≡ Some false
      → Meets (outermost (length ds) env) (excluded e es ds)
  pub here : (es : List Entry) (e : Expression) → excluded e es es ≡ narrow es e false

-- A component of a PAR changes some variables, which hold then what they hold at its end, and leaves the others.
abbrev pub ComponentsHold : Type 0
ComponentsHold = (ds es : List Entry) (env new : Environment) (ns : List ℕ) → Meets env ds → Meets new es
    → Meets (taken ns env new) (taken ns ds es)

-- ---- the shape

-- Moves within a scope change no names and no meanings but the ranges of scalars.
pub record ShapesStay : Type 0 where
  pub narrowing : (es : List Entry) (e : Expression) (holds : Bool) → shape (narrow es e holds) ≡ shape es
  pub excluding : (es ds : List Entry) (e : Expression) → shape (excluded e es ds) ≡ shape ds
  pub assigning : (es : List Entry) (n : ℕ) (range : Ends) → shape (assign n range es) ≡ shape es
  pub widening : (es : List Entry) (ns : List ℕ) → shape (widen ns es) ≡ shape es
  pub joining : (ds es : List Entry) → shape (hulls ds es) ≡ shape ds
  pub taking : (ds es : List Entry) (ns : List ℕ) → shape ds ≡ shape es → shape (taken ns ds es) ≡ shape ds
  pub leaving : (ds es : List Entry) (count : ℕ) → shape ds ≡ shape es
      → shape (outermost count ds) ≡ shape (outermost count es)
