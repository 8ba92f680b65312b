-- What a label row says of words: what its piece says, though neighbours with one range share an entry.
use Rattle.std.specs.Prelude.{◌≡◌, ℕ, zero, suc, ◌==◌, ◌&&◌, ℤ, pos, ◌+ℤ◌, Bool, true, List, map, Option}
use Rattle.std.specs.List.{list_all}
use Rattle.module_format.specs.Rows.{Entry, Fact}
use Rattle.module_format.specs.declared.fact.Fact.TheVariants.{Number}
use Rattle.module_builder.specs.Placing.{placed_entry}
use Rattle.code_pieces.specs.declared.piece.RowEntry.{RowEntry}
use Rattle.code_pieces.specs.Numbers.{Numbered}
use Rattle.code_pieces.specs.DraftedRows.{drafted_entry}
use Rattle.code_pieces.specs.Laying.{said, said_fact}

-- a test of a word, the fact of its entry, and whether it is the entry's first one
abbrev pub WordTest : Type 0
WordTest = ℤ → Fact → Bool → Bool

-- the first n words of an entry pass
abbrev pub words_pass : WordTest → ℤ → Fact → ℕ → Bool
words_pass test word fact zero = true
words_pass test word fact (suc more) = test (word +ℤ pos more) fact (more == 0) && words_pass test word fact more

-- of a word in a range it is not asked whether it is the first one
abbrev pub AsksNoFirst : WordTest → Type 0
AsksNoFirst test = (word lo hi : ℤ) (a b : Bool) → test word (Number lo hi) a ≡ test word (Number lo hi) b

-- The words of a row pass such a test where those that its piece names do.
abbrev pub WordsAreSaid : Type 0
WordsAreSaid = (test : WordTest) (offsets : List (Option ℕ)) (weights : List Numbered) (es : List RowEntry)
    → AsksNoFirst test
    → list_all (λ (e : Entry). words_pass test e.word e.fact e.span)
    (map (placed_entry offsets) (map drafted_entry (said weights es)))
    ≡ list_all (λ (e : RowEntry). words_pass test (pos e.word) (said_fact weights e.fact) e.span) es
