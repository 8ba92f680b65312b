-- What the body of a loop leaves, the next turn may begin with.
use Rattle.std.specs.Prelude.{ℕ, List}
use Rattle.scalar_ranges.specs.Entries.{Entry}
use Rattle.scalar_ranges.specs.Environments.{Environment, Meets}
use Rattle.scalar_ranges.specs.Moves.{widen}
use Rattle.program_meaning.specs.RangesWithin.{EntriesWithin}
use Rattle.program_meaning.specs.TypedValues.{AreTyped}

pub record LoopsGoOn : Type 0 where
  -- what is known before a loop is within what its first turn begins with
  pub first : (ns : List ℕ) (es : List Entry) → EntriesWithin ns es (widen ns es)
  -- an environment that meets what is within the beginning of a turn meets that beginning, if each name holds numbers
  -- of its type
  pub again : (ns : List ℕ) (ds es : List Entry) (env : Environment) → EntriesWithin ns ds (widen ns es)
      → AreTyped env ds → Meets env ds → Meets env (widen ns es)
