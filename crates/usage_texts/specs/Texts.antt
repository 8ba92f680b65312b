-- Bytes of a line as they are written.
use Rattle.std.specs.Prelude.{ℕ, List, ◌++◌, codes, map}
use Rattle.reason_texts.specs.Blocks.{Text, shown_byte}

-- bytes of a line as they are shown
abbrev pub shown_text : List ℕ → Text
shown_text bytes = map shown_byte bytes

-- the same behind a quote, and what ends them
abbrev pub quoted_text : List ℕ → Text → Text
quoted_text bytes end = codes "`" ++ (shown_text bytes ++ end)

-- a name in quotes
abbrev pub quoted_name : List ℕ → Text
quoted_name name = quoted_text name (codes "`")
