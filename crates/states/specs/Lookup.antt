-- Facts by index, as they are kept in memory: the last fact of each index that was written, in a list, and for each
-- index the place in the list at which it may be.
use Rattle.std.specs.Prelude.{◌≡◌, ℕ, ◌<◌, ◌==◌, if◌then◌else◌, List, [], ◌∷◌, length, map, slice_index, Option, Some}
use Rattle.std.specs.Prelude.{None, ℤ, pos, negsuc, ◌-ℤ◌, ◌/◌, Bool, true, false, get_or, option_map, unwrap_or}
use Rattle.module_format.specs.Rows.{Fact}
use Rattle.module_format.specs.Rows.{Entry}
use Rattle.states.specs.declared.known.WordFact.TheVariants.{Alone}
use Rattle.states.specs.Blocks.{block_words}
use Rattle.states.specs.State.{Facts, entry_fact}
use Rattle.states.specs.declared.overlay.Written.{Written}

-- the fact of an index, if it was written
abbrev pub lookup : List Written → ℕ → Option Fact
lookup [] index = None
lookup (w ∷ ws) index = if w.index == index then Some w.fact else lookup ws index

abbrev pub indices : List Written → List ℕ
indices written = map (λ w. w.index) written

-- the table of places gives the place in the list of each index that was written
abbrev pub ArePlaced : List ℕ → List Written → Type 0
ArePlaced places written =
    (i : ℕ) → i < length written → (slice_index (indices written) i < length places)
    × (slice_index places (slice_index (indices written) i) ≡ i)

-- the fact of an index, which none below 0 has
abbrev pub fact_of_index : List Written → ℤ → Option Fact
fact_of_index written (pos index) = lookup written index
fact_of_index written (negsuc n) = None

-- what was written to a word, where the word `lo` has index 0, and is its fact alone, else what the row says
abbrev pub facts_over : ℤ → List Entry → List Written → Facts
facts_over lo row written = λ k. unwrap_or (option_map Alone (fact_of_index written (k -ℤ lo))) (entry_fact row k)

-- one of the indices of a block of words may have been written
abbrev pub is_touched : List Bool → ℕ → Bool
is_touched touched number = get_or touched number true

-- of a block of which that is not so, none was
abbrev pub AreTouched : List Bool → List Written → Type 0
AreTouched touched written = (j : ℕ) → is_touched touched (j / block_words) ≡ false → lookup written j ≡ None
