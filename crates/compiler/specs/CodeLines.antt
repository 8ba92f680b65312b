-- Which lines of a source the code of its module comes from.
use Rattle.std.specs.Prelude.{◌≤◌, ℕ, ◌+◌, nat_eq, List, length, filter}
use Rattle.std.specs.List.{All}
use Rattle.std.specs.List.Sorted.{IsSortedByKey}
use Rattle.std.specs.Ordering.{nat_cmp}
use Rattle.source_lines.specs.declared.entry.LineEntry.{LineEntry}

-- how many ends of lines there are
abbrev pub ends_in : List ℕ → ℕ
ends_in source = length (filter (λ byte. nat_eq byte 10) source)

-- the line is one of a source with this number of ends of lines
pub record IsOnLine (ends : ℕ) (entry : LineEntry) : Type 0 where
  pub above : 1 ≤ entry.line
  pub within : entry.line ≤ ends + 1

-- The entries rise by their offsets, and are of lines that the source has.
pub record AreLinesOf (source : List ℕ) (entries : List LineEntry) : Type 0 where
  pub rise : IsSortedByKey (λ (entry : LineEntry). entry.offset) nat_cmp entries
  pub on_lines : All (IsOnLine (ends_in source)) entries
