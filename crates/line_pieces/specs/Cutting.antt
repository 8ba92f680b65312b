-- What a branch of a PAR knows of words outside, and which of them it has.
use Rattle.std.specs.Prelude.{ℕ, pos, ◌+ℤ◌, ◌-ℤ◌, nat_le, Bool, true, false, List, [], ◌∷◌, ◌++◌, if◌then◌else◌}
use Rattle.std.specs.Prelude.{Option, Some, None}
use Rattle.std.specs.Ordering.{nat_cmp}
use Rattle.std.specs.BTreeMap.{get}
use Rattle.module_format.specs.declared.rows.Interval.{Interval}
use Rattle.code_pieces.specs.declared.piece.RowEntry.{RowEntry}
use Rattle.code_pieces.specs.declared.piece.WordFact.{WordFact}
use Rattle.code_pieces.specs.declared.piece.WordFact.TheVariants.{Between, Turning}
use Rattle.code_pieces.specs.Pieces.{Piece, Row, word_after}
use Rattle.line_pieces.specs.declared.noting.Access.{Access}
use Rattle.line_pieces.specs.declared.noting.Access.TheVariants.{Reads, Writes}
use Rattle.line_pieces.specs.declared.noting.Notes.{Notes}

-- how a variable is used, by its first word
abbrev pub uses_of : Notes → ℕ → Option Access
uses_of n word = get nat_cmp n.words word

-- ---- rows

-- what another process knows of words: of a loop, the index alone
abbrev pub outside_fact : ℕ → ℕ → WordFact → RowEntry
outside_fact word span (Between lo hi) = record { word = word; span = span; fact = Between lo hi }
outside_fact word span (Turning head base count) =
    record { word = word; span = 1; fact = Between base (base +ℤ (pos count -ℤ pos 1)) }

abbrev pub known_outside : RowEntry → RowEntry
known_outside e = outside_fact e.word e.span e.fact

abbrev pub if_used : Option Access → RowEntry → List RowEntry
if_used None e = []
if_used (Some access) e = e ∷ []

-- What a row in a branch says: of the words below this one, which are outside, only what the branch uses.
abbrev pub cut_entry : ℕ → (ℕ → Option Access) → RowEntry → List RowEntry
cut_entry outside uses e =
    if nat_le outside e.word then e ∷ [] else if_used (uses e.word) (known_outside e)

abbrev pub cut_entries : ℕ → (ℕ → Option Access) → List RowEntry → List RowEntry
cut_entries outside uses [] = []
cut_entries outside uses (e ∷ es) = cut_entry outside uses e ++ cut_entries outside uses es

abbrev pub cut_piece : ℕ → (ℕ → Option Access) → Piece → Piece
cut_piece outside uses (Row label entries) = Row label (cut_entries outside uses entries)
cut_piece outside uses piece = piece

-- ---- words

-- the words from one up to another, which is not among them
abbrev pub words_between : ℕ → ℕ → Interval
words_between lo hi = record { lo = pos lo; hi = pos hi }

abbrev pub words_in : RowEntry → Interval
words_in e = words_between e.word (word_after e.word e.span)

-- whether a variable is used so
abbrev pub is_used : Access → Option Access → Bool
is_used Reads (Some Reads) = true
is_used Writes (Some Writes) = true
is_used access used = false

-- the words of an entry, if they are used so
unfoldable pub words_at : Access → (ℕ → Option Access) → RowEntry → List Interval
words_at access uses e = if is_used access (uses e.word) then words_in (known_outside e) ∷ [] else []

abbrev pub all_words : Access → (ℕ → Option Access) → List RowEntry → List Interval
all_words access uses [] = []
all_words access uses (e ∷ es) = words_at access uses e ++ all_words access uses es
