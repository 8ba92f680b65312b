-- The entries of label rows: their words rise, no two entries overlap, and their loops are those of the format.
use Rattle.std.specs.Prelude.{◌≡◌, ⊤, ℕ, ℤ, pos, ◌+ℤ◌, ◌≤ℤ◌, ◌<ℤ◌, int_le, ◌&&◌, Bool, true, false, List, [], ◌∷◌}
use Rattle.std.specs.Prelude.{IsTrue}
use Rattle.module_format.specs.declared.fact.Fact.TheVariants.{Unknown}
use Rattle.module_format.specs.Rows.{Entry}
use Rattle.module_format.specs.Order.{least_word}
use Rattle.module_format.specs.Contents.{Contents, Label}
use Rattle.module_format.specs.Contexts.{context_at}
use Rattle.certificate.specs.Rights.{has_word}
use Rattle.module_format.specs.Facts.{end_of, IsLoop}
use Rattle.states.specs.declared.known.WordFact.{WordFact}
use Rattle.states.specs.declared.known.WordFact.TheVariants.{Alone, Index, Count}
use Rattle.states.specs.State.{is_silent, entry_fact}

-- the entries begin at this word or later, each after the one before it
abbrev pub rise_from : ℤ → List Entry → Bool
rise_from low [] = true
rise_from low (entry ∷ entries) = int_le low entry.word && rise_from (end_of entry) entries

abbrev pub AreApart : List Entry → Type 0
AreApart entries = IsTrue (rise_from least_word entries)

-- a loop that a word is in is one of the format: its last index and its number of turns are words
abbrev pub LoopFits : WordFact → Type 0
LoopFits (Alone fact) = ⊤
LoopFits (Index loop) = IsLoop loop.base loop.count loop.weight
LoopFits (Count loop) = IsLoop loop.base loop.count loop.weight

-- the entries of a frame of `room` words from `lo` on: each word of which something is known is one of them
pub record IsRow (lo : ℤ) (room : ℕ) (entries : List Entry) : Type 0 where
  pub apart : AreApart entries
  pub loops : (k : ℤ) → LoopFits (entry_fact entries k)
  pub inside : (k : ℤ) → is_silent (entry_fact entries k) ≡ false → (lo ≤ℤ k) × (k <ℤ (lo +ℤ pos room))

-- the entries of a module's label: they say nothing of words that its context does not have
pub record IsRowOf (m : Contents) (t : Label) : Type 0 where
  pub apart : AreApart t.entries
  pub loops : (k : ℤ) → LoopFits (entry_fact t.entries k)
  pub own : (k : ℤ) → has_word (context_at m t.context) k ≡ false → entry_fact t.entries k ≡ Alone Unknown
