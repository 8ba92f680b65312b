-- Names that hold numbers of their types hold such numbers after each step.
use Rattle.std.specs.Prelude.{◌≡◌, ℕ, ℤ, List, ◌∷◌, Some, IfSome}
use Rattle.occam_parser.specs.Lines.{Place}
use Rattle.scalar_ranges.specs.Entries.{Meaning, Entry, meaning_in}
use Rattle.scalar_ranges.specs.Environments.{Held, One, Environment, Meets, held_in}
use Rattle.scalar_ranges.specs.Moves.{outermost}
use Rattle.scalar_ranges.specs.MoveLaws.{shape}
use Rattle.program_meaning.specs.Storing.{bind, stored}
use Rattle.program_meaning.specs.TypedValues.{HasType, AreTyped}

pub record TypesStay : Type 0 where
  -- each name that is found holds what is of its type
  pub finding : (es : List Entry) (env : Environment) (name : List ℕ) (m : Meaning) → Meets env es → AreTyped env es
      → meaning_in name es ≡ Some m → HasType m (held_in name env)
  -- a declaration that holds what is of its type
  pub declaring : (es : List Entry) (env : Environment) (name : List ℕ) (m : Meaning) (h : Held) → AreTyped env es
      → HasType m h → AreTyped (bind name h env) (record { name = name; meaning = m } ∷ es)
  -- scopes that are left
  pub leaving : (es : List Entry) (env : Environment) (count : ℕ) → AreTyped env es
      → AreTyped (outermost count env) (outermost count es)
  -- ranges say nothing of types
  pub moving : (ds es : List Entry) (env : Environment) → shape ds ≡ shape es → AreTyped env ds → AreTyped env es
  -- a number of the type is stored in a variable or in an element
  pub storing : (es : List Entry) (env : Environment) (p : Place) (m : Meaning) (v : ℤ) → Meets env es
      → AreTyped env es → meaning_in p.name es ≡ Some m → HasType m (One v)
      → IfSome (stored env p v) (λ after. AreTyped after es)
