-- Entries of which only those words are kept that intervals have, or only the others.
use Rattle.std.specs.Prelude.{◌≡◌, ◌⊎◌, ℕ, ℤ, ◌+◌, ◌≤ℤ◌, ◌<ℤ◌, int_le, Bool, true, false, not, ◌&&◌, ◌||◌, if◌then◌else◌}
use Rattle.std.specs.Prelude.{List, [], ◌∷◌, sum_by}
use Rattle.std.specs.List.{list_all}
use Rattle.module_format.specs.Rows.{Entry}
use Rattle.module_format.specs.declared.rows.Interval.{Interval}
use Rattle.module_format.specs.declared.fact.Fact.TheVariants.{Unknown}
use Rattle.module_format.specs.Facts.{end_of}
use Rattle.module_format.specs.Order.{least_word}
use Rattle.certificate.specs.Rights.{is_among}
use Rattle.states.specs.declared.cutting.Side.{Side}
use Rattle.states.specs.declared.cutting.Side.TheVariants.{Inside, Outside}
use Rattle.states.specs.declared.known.WordFact.TheVariants.{Alone}
use Rattle.states.specs.State.{Facts, is_alone, said_of, entry_fact}
use Rattle.states.specs.Below.{says, is_whole, price}
use Rattle.states.specs.Rows.{rise_from, AreApart}

-- ---- what is asked of some words

-- of each word that no interval has, at least what is wanted is known
abbrev pub SaysOutside : List Interval → Facts → Facts → Type 0
SaysOutside intervals facts wanted = (k : ℤ) → is_among intervals k ≡ false → says (facts k) (wanted k) ≡ true

-- so it is of each word that entries have and no interval has, no loop that they want is half known, and this is paid
-- for those that are entered
pub record IsPaidOutside (intervals : List Interval) (facts : Facts) (entries : List Entry) (paid : ℕ) : Type 0 where
  pub says : SaysOutside intervals facts (entry_fact entries)
  pub whole : list_all (is_whole facts) entries ≡ true
  pub due : sum_by (price facts) entries ≡ paid

-- of each word that an interval has, at least what is wanted is known, and what is wanted is no loop's
abbrev pub SaysInside : List Interval → Facts → Facts → Type 0
SaysInside intervals facts wanted =
    (k : ℤ) → is_among intervals k ≡ true → (says (facts k) (wanted k) ≡ true) × (is_alone (wanted k) ≡ true)

-- no word is one of a loop by the one and by the other
abbrev pub AreLoopsApart : Facts → Facts → Type 0
AreLoopsApart facts wanted = (k : ℤ) → is_alone (facts k) || is_alone (wanted k) ≡ true

-- ---- what is kept

-- words are kept that an interval has, or that none has
abbrev pub is_on_side : Side → Bool → Bool
is_on_side Inside is_among = is_among
is_on_side Outside is_among = not is_among

-- what is said of the words that are kept, and nothing of the others
abbrev pub kept_facts : Side → List Interval → Facts → Facts
kept_facts side intervals facts = λ k. if is_on_side side (is_among intervals k) then facts k else Alone Unknown

-- The pieces say what the entries say of the words that are kept, and no interval has a word of a loop. If the words
-- that no interval has are kept, the pieces have all loops.
pub record AreCut (side : Side) (intervals : List Interval) (entries pieces : List Entry) : Type 0 where
  pub apart : AreApart pieces
  pub kept : (k : ℤ) → entry_fact pieces k ≡ kept_facts side intervals (entry_fact entries) k
  pub alone : (k : ℤ) → is_among intervals k ≡ true → is_alone (entry_fact entries k) ≡ true
  pub whole : (facts : Facts) → is_on_side side false ≡ true
      → list_all (is_whole facts) entries ≡ list_all (is_whole facts) pieces
  pub due : (facts : Facts) → is_on_side side false ≡ true
      → sum_by (price facts) entries ≡ sum_by (price facts) pieces

-- ---- one pass over entries and intervals

-- the entries begin at `low` or later, each after the one before it, and none ends after `high`
abbrev pub rise_between : ℤ → ℤ → List Entry → Bool
rise_between low high [] = int_le low high
rise_between low high (entry ∷ entries) = int_le low entry.word && rise_between (end_of entry) high entries

-- A row is cut up to a word, by pieces that end there or before. From there on, what is left of the row and of the
-- intervals is what they are.
pub record IsCutTo (side : Side) (intervals : List Interval) (row rest pieces : List Entry) (left : List Interval)
    (word : ℤ) : Type 0 where
  pub later : (k : ℤ) → word ≤ℤ k → is_among left k ≡ is_among intervals k
  pub apart : rise_between least_word word pieces ≡ true
  pub kept : (k : ℤ) → k <ℤ word → entry_fact pieces k ≡ kept_facts side intervals (entry_fact row) k
  pub same : (k : ℤ) → word ≤ℤ k → entry_fact row k ≡ entry_fact rest k
  pub alone : (k : ℤ) → k <ℤ word → is_among intervals k ≡ true → is_alone (entry_fact row k) ≡ true
  pub whole : (facts : Facts) → is_on_side side false ≡ true
      → list_all (is_whole facts) row ≡ (list_all (is_whole facts) pieces && list_all (is_whole facts) rest)
  pub due : (facts : Facts) → is_on_side side false ≡ true
      → sum_by (price facts) row ≡ sum_by (price facts) pieces + sum_by (price facts) rest

-- a row is cut up to its entries that are left
pub record IsCutBefore (side : Side) (intervals : List Interval) (row rest pieces : List Entry) (left : List Interval)
    : Type 0 where
  pub word : ℤ
  pub rises : rise_from word rest ≡ true
  pub cut : IsCutTo side intervals row rest pieces left word

-- some words of an entry are cut, from the one word up to the other
abbrev pub CutsOn : Side → Entry → List Entry → List Entry → List Interval → List Interval → ℤ → ℤ → Type 0
CutsOn side entry pieces further left next word end =
    (intervals : List Interval) (row later : List Entry)
    → IsCutTo side intervals row (entry ∷ later) pieces left word
    → IsCutTo side intervals row (entry ∷ later) further next end

-- an entry is cut, and what comes before its words
abbrev pub CutsEntry : Side → Entry → List Entry → List Entry → List Interval → List Interval → Type 0
CutsEntry side entry pieces further left next =
    (intervals : List Interval) (row later : List Entry)
    → IsCutTo side intervals row (entry ∷ later) pieces left entry.word
    → IsCutTo side intervals row later further next (end_of entry)

-- ---- loops of two rows

-- no word is one of a loop by an entry and by a row
abbrev pub IsApartFrom : Entry → List Entry → Type 0
IsApartFrom entry row =
    (k : ℤ) → entry.word ≤ℤ k → k <ℤ end_of entry → (is_first : Bool)
    → is_alone (said_of entry.fact is_first) || is_alone (entry_fact row k) ≡ true

-- Of each word of the one row so far, that row or the other one says what is no loop's. From the next entry on, what is
-- left of the other row says what it says.
pub record AreApartSoFar (row other rest left : List Entry) : Type 0 where
  pub word : ℤ
  pub rises : rise_from word rest ≡ true
  pub same : (k : ℤ) → word ≤ℤ k → entry_fact left k ≡ entry_fact other k
  pub each : (k : ℤ) → (entry_fact row k ≡ entry_fact rest k)
      ⊎ (is_alone (entry_fact row k) || is_alone (entry_fact other k) ≡ true)
