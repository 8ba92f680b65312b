-- Parts of a line by their tokens.
use Rattle.std.specs.Prelude.{ℕ, ◌-◌, ◌==◌, ◌&&◌, Bool, not, List, length, take, drop}
use Rattle.occam_layout.specs.declared.token.Token.{Token}
use Rattle.reason_texts.specs.declared.block.Span.{Span}
use Rattle.reason_texts.specs.Blocks.{Text, meant, closing_quote}
use Rattle.reason_texts.specs.ParseTexts.{line_span}
use Rattle.usage_reasons.specs.declared.reason.Tokens.{Tokens}
use Rattle.usage_texts.specs.declared.view.View.{View}
use Rattle.usage_texts.specs.Texts.{quoted_text}

-- a line of a source: its bytes, the offset of the first one, and its tokens
pub record Seen : Type 0 where
  pub bytes : List ℕ
  pub offset : ℕ
  pub tokens : List Token

abbrev pub seen : View → Seen
seen v = record { bytes = v.bytes.now; offset = v.offset; tokens = v.tokens.now }

-- tokens of a line, as far as it has them
abbrev pub tokens_in : List Token → Tokens → List Token
tokens_in tokens part = take part.len (drop part.at tokens)

-- where tokens of a line are
abbrev pub span_in : Seen → Tokens → Span
span_in line part = line_span line.offset (tokens_in line.tokens part)

abbrev pub bytes_at : List ℕ → Span → List ℕ
bytes_at line span = meant line span.at span.len

-- the bytes of tokens of a line in quotes, of which at most 100 are shown
unfoldable pub quoted_in : Seen → Tokens → Text
quoted_in line part =
    quoted_text (bytes_at line.bytes (span_in line part)) (closing_quote (span_in line part).len)

-- the name of the array whose subscript these tokens are: a bracket is between them
abbrev pub array_before : Tokens → Tokens
array_before subscript = record { at = subscript.at - 2; len = 1 }

abbrev pub first_of : Tokens → Tokens
first_of tokens = record { at = tokens.at; len = 1 }

-- a line has all of some tokens, and there is one at least
abbrev pub has_tokens : List Token → Tokens → Bool
has_tokens tokens part = not (part.len == 0) && (length (tokens_in tokens part) == part.len)
