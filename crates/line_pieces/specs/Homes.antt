-- Where what names denote is kept while a program runs, and what is known of it there.
use Rattle.std.specs.Prelude.{ℕ, ◌+◌, ◌/◌, min, ℤ, pos, ◌-ℤ◌, ◌+ℤ◌, unsigned_abs, List, [], ◌∷◌, ◌++◌, reverse}
use Rattle.std.specs.Prelude.{Option, Some, None, option_and_then, slice_get}
use Rattle.occam_parser.specs.declared.tree.ValueType.{ValueType}
use Rattle.occam_parser.specs.declared.tree.ValueType.TheVariants as value_type
use Rattle.word_arithmetic.specs.Range.{Ends, full}
use Rattle.scalar_ranges.specs.Entries.{Meaning, Scalar, Array, Entry, number_in}
use Rattle.code_pieces.specs.declared.piece.WordFact.TheVariants.{Between, Turning}
use Rattle.code_pieces.specs.declared.piece.RowEntry.{RowEntry}
use Rattle.line_pieces.specs.declared.facts.TheConstants.{GREATEST_TURNS}

-- Words have numbers in the frame, from 0 on. A name of a scope is at the place of its number, from the outermost on.
pub data Home : Type 0 where
  -- a constant or a procedure: it has no place
  Nowhere : Home
  -- the word of a scalar or a channel, or the first word of an array
  Word : (word : ℕ) → Home
  -- the two words of a loop's block, whose head is at this label: the first one is the index
  Block : (word head : ℕ) → Home
  -- a link: 0 to 3 are the links out, and 4 to 7 the links in
  Link : (number : ℕ) → Home
  -- a table, with a word for each value
  Table : (values : List ℤ) → Home
  -- In a procedure, the word of a variable or a channel that is passed to it, or the first word of an array. What is
  -- known of it is known outside.
  Passed : (word : ℕ) → Home

abbrev pub home_of : List Home → List Entry → List ℕ → Option Home
home_of hs es name = option_and_then (slice_get hs) (number_in name es)

-- how many words the elements of an array have: four BYTEs share one
abbrev pub words_for : ValueType → ℕ → ℕ
words_for value_type.Int size = size
words_for value_type.Byte size = (size + 3) / 4

-- ---- what is known of words

abbrev pub is_in : ℕ → ℕ → Ends → RowEntry
is_in word span r = record { word = word; span = span; fact = Between r.lo r.hi }

-- how many numbers a range has, as far as a loop has turns
abbrev pub count_in : Ends → ℕ
count_in r = min (unsigned_abs ((r.hi -ℤ r.lo) +ℤ pos 1)) GREATEST_TURNS

-- Of a scalar its range is known, and of the words of an array nothing. What has no word has no entry.
abbrev pub facts_at : Home → Meaning → List RowEntry
facts_at (Word w) (Scalar kind type range) = is_in w 1 range ∷ []
facts_at (Word w) (Array kind type (Some size) range) = is_in w (words_for type size) full ∷ []
facts_at (Block w head) (Scalar kind type range) =
    record { word = w; span = 2; fact = Turning head range.lo (count_in range) } ∷ []
facts_at h m = []

-- of a name that may not be in the scope
abbrev pub facts_here : Home → Option Entry → List RowEntry
facts_here h None = []
facts_here h (Some e) = facts_at h e.meaning

abbrev pub facts_from : List Home → List Entry → List RowEntry
facts_from [] es = []
facts_from (h ∷ hs) [] = []
facts_from (h ∷ hs) (e ∷ es) = facts_at h e.meaning ++ facts_from hs es

-- what a scope knows of words, those of the outermost names first
abbrev pub facts_of : List Home → List Entry → List RowEntry
facts_of hs es = facts_from hs (reverse es)
