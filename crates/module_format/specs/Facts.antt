-- The rules of facts, entries and label rows, each by itself.
use Rattle.std.specs.Prelude.{◌≡◌, ◌≢◌, ⊤, ℕ, ◌^◌, ◌<◌, ◌≤◌, nat_le, ℤ, pos, ◌+ℤ◌, ◌≤ℤ◌, int_le, FitsSigned, Bool, ◌&&◌}
use Rattle.std.specs.Prelude.{IsTrue, List, length}
use Rattle.std.specs.List.{AllByRecursion}
use Rattle.std.specs.Int.{w32}
use Rattle.module_format.specs.Rows.{Fact}
use Rattle.module_format.specs.declared.fact.Fact.TheVariants as facts
use Rattle.module_format.specs.declared.fact.Region.{Region}
use Rattle.module_format.specs.declared.fact.Step.{Step}
use Rattle.module_format.specs.declared.fact.Step.TheVariants as steps
use Rattle.module_format.specs.Rows.{Entry}
use Rattle.module_format.specs.Regions.{region_number}
use Rattle.module_format.specs.Order.{InOrder, IsInterval, least_word, greatest_word, is_stepped}
use Rattle.module_format.specs.Contents.{Procedure, Label}

-- where a pointer's offsets are multiples of a word's bytes, its bounds are
abbrev pub IsStepped : Step → ℤ → ℤ → Type 0
IsStepped steps.Byte lo hi = ⊤
IsStepped steps.Word lo hi = IsTrue (is_stepped lo) × IsTrue (is_stepped hi)

pub record IsPointer (region : Region) (lo hi : ℤ) (step : Step) : Type 0 where
  pub region_fits : region_number region < 2 ^ 16
  pub interval : IsInterval lo hi
  pub stepped : IsStepped step lo hi

-- a loop whose index begins at `base` may have `count` turns: the number and the last index are words
abbrev pub is_loop_length : ℤ → ℕ → Bool
is_loop_length base count =
    nat_le 1 count && int_le (pos count) greatest_word && int_le (base +ℤ pos count) (pos 2147483648)

-- A loop of `count` turns, whose index begins at `base`: its last index is a word.
pub record IsLoop (base : ℤ) (count weight : ℕ) : Type 0 where
  pub base_fits : FitsSigned w32 base
  pub some : 1 ≤ count
  pub limit : pos count ≤ℤ greatest_word
  pub last : (base +ℤ pos count) ≤ℤ pos 2147483648
  pub weight_fits : weight < 2 ^ 64

-- a fact of a value, in a module with code of this length: a register and a frame word may have it
abbrev pub ValueKeeps : ℕ → Fact → Type 0
ValueKeeps code_len facts.Unknown = ⊥
ValueKeeps code_len (facts.Number lo hi) = IsInterval lo hi
ValueKeeps code_len (facts.Pointer region lo hi step) = IsPointer region lo hi step
ValueKeeps code_len (facts.CodeAddress offset) = offset ≤ code_len
ValueKeeps code_len (facts.Loop base count weight) = ⊥
ValueKeeps code_len facts.ReturnAddress = ⊥

-- A fact of a register, in a module with code of this length: the words of a loop and a return address are in memory.
abbrev pub RegisterKeeps : ℕ → Fact → Type 0
RegisterKeeps code_len facts.Unknown = ⊤
RegisterKeeps code_len (facts.Number lo hi) = IsInterval lo hi
RegisterKeeps code_len (facts.Pointer region lo hi step) = IsPointer region lo hi step
RegisterKeeps code_len (facts.CodeAddress offset) = offset ≤ code_len
RegisterKeeps code_len (facts.Loop base count weight) = ⊥
RegisterKeeps code_len facts.ReturnAddress = ⊥

-- A fact of `span` frame words: not unknown, since a word without an entry is that. A loop has two words, and a return
-- address one.
abbrev pub WordKeeps : ℕ → ℕ → Fact → Type 0
WordKeeps code_len span facts.Unknown = ⊥
WordKeeps code_len span (facts.Number lo hi) = IsInterval lo hi
WordKeeps code_len span (facts.Pointer region lo hi step) = IsPointer region lo hi step
WordKeeps code_len span (facts.CodeAddress offset) = offset ≤ code_len
WordKeeps code_len span (facts.Loop base count weight) = (span ≡ 2) × IsLoop base count weight
WordKeeps code_len span facts.ReturnAddress = span ≡ 1

-- the first word after an entry
abbrev pub end_of : Entry → ℤ
end_of e = e.word +ℤ pos e.span

-- an entry leaves the words after it
abbrev pub behind_entry : ℤ → Entry → ℤ
behind_entry low e = end_of e

-- an entry, of words that no entry before it has: those end at word `low`
pub record EntryKeeps (code_len : ℕ) (low : ℤ) (e : Entry) : Type 0 where
  pub word_fits : FitsSigned w32 e.word
  pub apart : low ≤ℤ e.word
  pub span_fits : e.span < 2 ^ 32
  pub spans : 1 ≤ e.span
  pub fact : WordKeeps code_len e.span e.fact

-- the offset of a label row in code of this length with these procedures, after a row at offset `low`
pub record IsLabelOffset (code_len : ℕ) (procedures : List Procedure) (low offset : ℕ) : Type 0 where
  pub rises : low < offset
  pub in_code : offset < code_len
  pub no_entry : AllByRecursion (λ p. p.entry ≢ offset) procedures

-- the facts of a label row
pub record FactsKeep (code_len : ℕ) (row : Label) : Type 0 where
  pub a : RegisterKeeps code_len row.stack.a
  pub b : RegisterKeeps code_len row.stack.b
  pub c : RegisterKeeps code_len row.stack.c
  pub count_fits : length row.entries < 2 ^ 16
  pub entries : InOrder (EntryKeeps code_len) behind_entry least_word row.entries

-- a label row of a module with code of this length and these procedures, after a row at offset `low`
pub record LabelKeeps (code_len : ℕ) (procedures : List Procedure) (low : ℕ) (row : Label) : Type 0 where
  pub offset : IsLabelOffset code_len procedures low row.offset
  pub context_fits : row.context < 2 ^ 16
  pub depth_fits : FitsSigned w32 row.depth
  pub number_fits : row.number < 2 ^ 64
  pub facts : FactsKeep code_len row

-- a label row leaves its offset
abbrev pub behind_label : ℕ → Label → ℕ
behind_label low row = row.offset
