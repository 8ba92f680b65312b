-- Which line of a source an instruction comes from, and the lines around it, in words: our own choice.
use Rattle.std.specs.Prelude.{ℕ, zero, suc, nat_le, nat_lt, nat_eq, if◌then◌else◌, List, [], ◌++◌, length, codes}
use Rattle.std.specs.Prelude.{Option, Some, None, slice_get}
use Rattle.std.specs.Fmt.{decimal}
use Rattle.std.specs.Option.{option_map_or}
use Rattle.source_lines.specs.declared.entry.LineEntry.{LineEntry}

abbrev pub Text : Type 0
Text = List ℕ

-- ---- the entry of an offset

-- of the first entries of this number: how many there are up to the last one that is at the offset or before it
abbrev pub count_upto : List LineEntry → ℕ → ℕ → ℕ
count_upto es at zero = zero
count_upto es at (suc k) = elim (slice_get es k) [
  | None ↦ count_upto es at k
  | Some e ↦ if nat_le e.offset at then suc k else count_upto es at k
]

-- ---- its lines

-- the line around a line, unless it is the same
abbrev pub within_text : (line outer : ℕ) → Text
within_text line outer = if nat_eq line outer then [] else codes " within line " ++ decimal outer

-- the lines around a line of this depth: that of this entry, if it is less deep, and those around it
abbrev pub around_with : (rest : ℕ → ℕ → Text) → (depth line : ℕ) → Option LineEntry → Text
around_with rest depth line None = rest depth line
around_with rest depth line (Some e) =
    if nat_lt e.depth depth then within_text line e.line ++ rest e.depth e.line else rest depth line

-- The lines around a line of this depth, among the first entries of this number: each is that of the last entry that is
-- less deep than the one inside of it.
abbrev pub around_text : List LineEntry → ℕ → (depth line : ℕ) → Text
around_text es zero depth line = []
around_text es (suc k) depth line = around_with (around_text es k) depth line (slice_get es k)

-- the line of an entry, with the lines around it, which are among the first entries of this number
abbrev pub entry_text : List LineEntry → ℕ → LineEntry → Text
entry_text es k e = codes ", line " ++ (decimal e.line ++ (around_text es k e.depth e.line ++ codes ","))

-- the line of the last of the first entries of this number, with the lines around it
abbrev pub last_text : List LineEntry → ℕ → Text
last_text es zero = []
last_text es (suc k) = option_map_or (entry_text es k) (slice_get es k) []

-- the line that what is at an offset comes from, and the lines around it, the innermost first
abbrev pub lines_text : List LineEntry → ℕ → Text
lines_text es at = last_text es (count_upto es at (length es))
