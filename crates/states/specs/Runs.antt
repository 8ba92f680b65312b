-- Words one after the other of which the same is known, and entries that hold by what is known of their words.
use Rattle.std.specs.Prelude.{◌≡◌, ℕ, ◌+◌, ℤ, ◌≤ℤ◌, ◌<ℤ◌, true, List, sum_by}
use Rattle.std.specs.List.{list_all}
use Rattle.module_format.specs.Rows.{Fact, Entry}
use Rattle.states.specs.declared.known.WordFact.TheVariants.{Alone}
use Rattle.states.specs.declared.frame_runs.Alike.{Alike}
use Rattle.states.specs.declared.runs.Run.{Run}
use Rattle.states.specs.State.{Facts}
use Rattle.states.specs.Below.{words_say, entries_hold, is_whole, price}

-- each word from one up to another, which is not included, is known to be this by itself
abbrev pub IsAlike : Facts → ℤ → ℤ → Fact → Type 0
IsAlike facts word end fact = (k : ℤ) → word ≤ℤ k → k <ℤ end → facts k ≡ Alone fact

-- words from one on, at least one and none from `end` on, of which the same is known
pub record IsRun (facts : Facts) (word end : ℤ) (run : Run) : Type 0 where
  pub ahead : word <ℤ run.end
  pub within : run.end ≤ℤ end
  pub same : IsAlike facts word run.end run.fact

-- words from one on, at least one and none from `end` on, of which the same is known, be it of a loop
pub record AreAlike (facts : Facts) (word end : ℤ) (alike : Alike) : Type 0 where
  pub ahead : word <ℤ alike.end
  pub within : alike.end ≤ℤ end
  pub same : (k : ℤ) → word ≤ℤ k → k <ℤ alike.end → facts k ≡ alike.fact

-- at least what an entry wants is known of its words, its loop, if it is of one, is not half known, and this is paid
pub record IsPaidEntry (facts : Facts) (entry : Entry) (paid : ℕ) : Type 0 where
  pub words : words_say facts entry entry.span ≡ true
  pub whole : is_whole facts entry ≡ true
  pub due : price facts entry ≡ paid

-- So it is of the entries of a row before those that are left.
pub record IsPassed (facts : Facts) (row rest : List Entry) (paid : ℕ) : Type 0 where
  pub hold : entries_hold facts row ≡ entries_hold facts rest
  pub whole : list_all (is_whole facts) row ≡ list_all (is_whole facts) rest
  pub due : sum_by (price facts) row ≡ paid + sum_by (price facts) rest
