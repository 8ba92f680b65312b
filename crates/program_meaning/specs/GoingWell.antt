-- Outcomes that are not stuck and leave what is known true, put together.
use Rattle.std.specs.Prelude.{ℕ, ◌<◌, List}
use Rattle.scalar_ranges.specs.Entries.{Entry}
use Rattle.scalar_ranges.specs.Environments.{Environment, Meets}
use Rattle.scalar_ranges.specs.Moves.{outermost, widen}
use Rattle.program_uses.specs.Indices.{turn_by_turn}
use Rattle.program_meaning.specs.Links.{Links}
use Rattle.program_meaning.specs.Running.{Outcome, Goes, Waits, Stuck, followed, left}
use Rattle.program_meaning.specs.TypedValues.{AreTyped}
use Rattle.program_meaning.specs.RangesWithin.{EntriesWithin}

-- what is known is true: an environment meets a scope, and each name holds numbers of its type
pub record IsTrueIn (es : List Entry) (env : Environment) : Type 0 where
  pub meets : Meets env es
  pub typed : AreTyped env es

-- not stuck; and where it goes on, what is known is true
abbrev pub IsWell : Outcome → List Entry → Type 0
IsWell (Goes env l) es = IsTrueIn es env
IsWell (Waits l) es = Unit {0}
IsWell Stuck es = ⊥

-- from each environment where what is known is true, all goes well
abbrev pub GoesWell : (Environment → Links → Outcome) → List Entry → List Entry → Type 0
GoesWell step es fs = (env : Environment) (l : Links) → IsTrueIn es env → IsWell (step env l) fs

pub record OutcomesGoWell : Type 0 where
  -- one after the other
  pub following : (es fs : List Entry) (o : Outcome) (next : Environment → Links → Outcome) → IsWell o es
      → GoesWell next es fs → IsWell (followed o next) fs
  -- scopes that are left
  pub leaving : (es : List Entry) (count : ℕ) (o : Outcome) → IsWell o es → IsWell (left count o) (outermost count es)
  -- where a loop begins that changes these variables
  pub beginning : (ns : List ℕ) (es : List Entry) (env : Environment) → IsTrueIn es env → IsTrueIn (widen ns es) env
  -- the turns of a loop, if what each leaves is within what it begins with, but for these variables
  pub looping : (ns : List ℕ) (es : List Entry) (ends : ℕ → List Entry) (turn : ℕ → Environment → Links → Outcome)
      (count : ℕ) → ((n : ℕ) → n < count → EntriesWithin ns (ends n) (widen ns es))
      → ((n : ℕ) → n < count → GoesWell (turn n) (widen ns es) (ends n))
      → GoesWell (λ env l. turn_by_turn (λ n o. followed o (turn n)) count (Goes env l)) (widen ns es) (widen ns es)
