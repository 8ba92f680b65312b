-- The lines of a source with their numbers, and a note behind each: our own choice.
use Rattle.std.specs.Prelude.{◌≡◌, ℕ, ◌+◌, ◌-◌, ◌^◌, List, [], ◌∷◌, ◌++◌, codes, map, take, unwrap_or, slice_get}
use Rattle.std.specs.Fmt.{format_spec, styled_decimal}
use Rattle.occam_layout.specs.Reading.{lines_of}
use Rattle.reason_texts.specs.Blocks.{Text, shown_byte}

-- a number, right-aligned in five places
abbrev pub line_number : ℕ → Text
line_number number = styled_decimal (format_spec 32 3 0 5 (2 ^ 64 - 1)) number

-- a line with its number and with a note
unfoldable pub listed_line : ℕ → List ℕ → Text → Text
listed_line number bytes note = line_number number ++ (codes "  " ++ (map shown_byte bytes ++ (note ++ codes "\n")))

-- what is noted on the line that has this many lines before it
abbrev pub note_on : List Text → ℕ → Text
note_on notes before = unwrap_or (slice_get notes before) []

-- lines, of which the first has this many before it
unfoldable pub listing_from : ℕ → List (List ℕ) → List Text → Text
listing_from before [] notes = []
listing_from before (bytes ∷ rest) notes =
    listed_line (before + 1) bytes (note_on notes before) ++ listing_from (before + 1) rest notes

-- the first lines of a source
abbrev pub listing : List ℕ → List Text → ℕ → Text
listing source notes last = listing_from 0 (take last (lines_of source)) notes

-- These are the first lines of a source, with some notes.
pub record IsListing (source : List ℕ) (last : ℕ) (text : Text) : Type 0 where
  pub notes : List Text
  pub written : text ≡ listing source notes last
