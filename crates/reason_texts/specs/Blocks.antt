-- The place at fault: its number and column, its line, and carets below what is meant.
use Rattle.std.specs.Prelude.{ℕ, ◌+◌, ◌-◌, List, [], ◌++◌, map, take, drop, replicate, codes, ◌==◌, if◌then◌else◌}
use Rattle.std.specs.Prelude.{nat_le}
use Rattle.std.specs.Prelude.{Option, Some, None}
use Rattle.std.specs.Fmt.{decimal}
use Rattle.occam_layout.specs.Reading.{is_character}
use Rattle.reason_texts.specs.declared.block.Span.{Span}

abbrev pub Text : Type 0
Text = List ℕ

-- where a fault is, as editors read it: columns are counted from 1
abbrev pub place_text : Text → ℕ → ℕ → Text
place_text path line at =
    path ++ (codes ":" ++ (decimal line ++ (codes ":" ++ (decimal (at + 1) ++ codes ": "))))

abbrev pub number_text : ℕ → Text
number_text number = codes " (O" ++ (decimal number ++ codes ")\n")

-- a byte of a line as it is shown: ? (63) for what is no character of a source
abbrev pub shown_byte : ℕ → ℕ
shown_byte b = if is_character b then b else 63

-- some bytes of a line, of which at most 100 are told
abbrev pub meant : List ℕ → ℕ → ℕ → List ℕ
meant line at len = take (if nat_le len 100 then len else 100) (drop at line)

-- what ends them: a quote, after two dots if not all of them are told
abbrev pub closing_quote : ℕ → Text
closing_quote len = if nat_le len 100 then codes "`" else codes "..`"

unfoldable pub closed_text : List ℕ → ℕ → ℕ → Text
closed_text line at len = map shown_byte (meant line at len) ++ closing_quote len

-- one caret at least, and 100 at most
abbrev pub caret_count : ℕ → ℕ
caret_count len = if len == 0 then 1 else (if nat_le len 100 then len else 100)

-- A line with carets (94) below some of its bytes, after spaces (32). At most 200 bytes are shown, from 100 before them on.
unfoldable pub block_text : List ℕ → ℕ → ℕ → Text
block_text line at len =
    map shown_byte (take 200 (drop (at - 100) line)) ++ (codes "\n"
    ++ (replicate (at - (at - 100)) 32 ++ (replicate (caret_count len) 94 ++ codes "\n")))

abbrev pub hint_text : Option Text → Text
hint_text None = []
hint_text (Some hint) = codes "  hint: " ++ (hint ++ codes "\n")

-- the number of a fault, its line, and what to write in its place
unfoldable pub rest_text : ℕ → List ℕ → Span → Option Text → Text
rest_text number line span hint = number_text number ++ (block_text line span.at span.len ++ hint_text hint)
