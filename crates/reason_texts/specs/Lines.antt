-- A line of a source, found by its number.
use Rattle.std.specs.Prelude.{◌≡◌, ℕ, ◌+◌, ◌/◌, List, [], ◌∷◌, length, ◌==◌, nat_lt, if◌then◌else◌, Option, Some, None}
use Rattle.occam_layout.specs.declared.layout.TheConstants.{MAX_BYTES}
use Rattle.occam_layout.specs.Reading.{is_blank, lines_of}
use Rattle.occam_layout.specs.Tokens.{indent_of, behind_indent}
use Rattle.reason_texts.specs.declared.lines.Above.{Above}
use Rattle.reason_texts.specs.declared.lines.SourceLine.{SourceLine}

-- a line, the offset of its first byte, and the last line before it that has tokens
pub record Sight : Type 0 where
  pub bytes : List ℕ
  pub offset : ℕ
  pub above : Option Above

abbrev pub sight_of : SourceLine → Sight
sight_of l = record { bytes = l.bytes.now; offset = l.offset; above = l.above }

-- the line above the next one
abbrev pub above_after : Option Above → ℕ → List ℕ → Option Above
above_after above line bytes =
    if is_blank (behind_indent bytes) then above else Some (record { line = line; level = indent_of bytes / 2 })

-- the line of a number among these, of which the first has a number, an offset and a line above it
unfoldable pub line_among : ℕ → ℕ → Option Above → List (List ℕ) → ℕ → Option Sight
line_among number offset above [] line = None
line_among number offset above (bytes ∷ rest) line =
    if number == line then Some (record { bytes = bytes; offset = offset; above = above })
    else line_among (number + 1) (offset + length bytes + 1) (above_after above number bytes) rest line

-- the line of a source that has a number
unfoldable pub line_found : List ℕ → ℕ → Option Sight
line_found source line =
    if nat_lt MAX_BYTES (length source) then None else line_among 1 0 None (lines_of source) line
