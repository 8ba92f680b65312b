-- A source and its lines of tokens, by the bytes. The layout of lines, comments and the shapes of tokens are those of
-- the occam 2 reference manual; the limits, and that a line may be only one level deeper, are our own choice.
use Rattle.std.specs.Prelude.{◌≡◌, ◌⊎◌, ℕ, pos, ◌+◌, ◌-◌, ◌*◌, ◌^◌, ◌<◌, ◌≤◌, Bool, true, false, ◌||◌, List, [], ◌∷◌}
use Rattle.std.specs.Prelude.{◌++◌, length, take, drop, nat_lt, ◌==◌, if◌then◌else◌, Option, Some, None, unwrap_or}
use Rattle.std.specs.Prelude.{option_map, option_and_then}
use Rattle.std.specs.List.{prefix_len, list_all, AllByRecursion}
use Rattle.std.specs.Char.{is_ascii_alphabetic, is_ascii_digit, is_ascii_hexdigit}
use Rattle.std.specs.Int.{w32, cast_signed}
use Rattle.occam_layout.specs.declared.layout.TheConstants.{MAX_BYTES, MAX_LINES}
use Rattle.occam_layout.specs.Characters.{decoded, body_len}
use Rattle.occam_layout.specs.Kind.{Kind, Mark, Name, Integer, Character, Text, keywords, keyword_among, is_sign}
use Rattle.occam_layout.specs.Reading.{is_name_byte, value, is_character, is_space, is_blank, is_in_line}
use Rattle.occam_layout.specs.Reading.{begins_comment, lines_of, Lexeme, Row}

-- ---- one token

-- the first quote that ends a literal is the last byte
abbrev pub is_last : ℕ → Option ℕ → Bool
is_last len None = false
is_last len (Some at) = len == at + 1

-- What a token may look like, by its first byte: a word, decimal digits, # (35) with digits after it, a literal
-- between quotes (39 and 34), a sign. Whether a literal is in range isn't checked.
unfoldable pub is_lexeme : List ℕ → Bool
is_lexeme [] = false
is_lexeme (c ∷ rest) =
    if is_ascii_alphabetic c then list_all is_name_byte rest
    else (if is_ascii_digit c then list_all is_ascii_digit rest
    else (if c == 35 then list_all is_ascii_hexdigit rest
    else (if c == 39 then is_last (length rest) (body_len 39 false rest)
    else (if c == 34 then is_last (length rest) (body_len 34 false rest)
    else is_sign (c ∷ rest)))))

-- nothing longer than the text may be a token here
pub record IsLongest (text rest : List ℕ) : Type 0 where
  pub lexeme : is_lexeme text ≡ true
  pub longest : (more others : List ℕ) → 0 < length more → rest ≡ more ++ others → is_lexeme (text ++ more) ≡ false

abbrev pub in_int : ℕ → Option Kind
in_int number = if nat_lt number (2 ^ 31) then Some (Integer (pos number)) else None

abbrev pub bits_of : List ℕ → Option Kind
bits_of digits = if length digits == 0 || nat_lt 8 (length digits) then None else Some
    (Integer (cast_signed w32 (value 16 digits)))

abbrev pub character_of : List ℕ → Option Kind
character_of [] = None
character_of (byte ∷ []) = Some (Character byte)
character_of (byte ∷ other ∷ others) = None

-- all but the last byte
abbrev pub body_of : List ℕ → List ℕ
body_of rest = take (length rest - 1) rest

-- what a token denotes, if it is in range
unfoldable pub meaning : List ℕ → Option Kind
meaning [] = None
meaning (c ∷ rest) =
    if is_ascii_alphabetic c then Some (unwrap_or (keyword_among keywords (c ∷ rest)) (Name (c ∷ rest)))
    else (if is_ascii_digit c then in_int (value 10 (c ∷ rest))
    else (if c == 35 then bits_of rest
    else (if c == 39 then option_and_then character_of (decoded 0 (body_of rest))
    else (if c == 34 then option_map Text (decoded 0 (body_of rest))
    else Some (Mark (c ∷ rest))))))

-- ---- the tokens of a line

-- The bytes of a line from an offset on are these tokens: only spaces (32) are between them, and after them
-- spaces and a comment.
pub data Tokens : ℕ → List ℕ → List Lexeme → Type 0 where
  Ends : (offset : ℕ) → Tokens offset [] []
  Comment : (offset : ℕ) (bytes : List ℕ) → begins_comment bytes ≡ true → Tokens offset bytes []
  Space : (offset : ℕ) (rest : List ℕ) (tokens : List Lexeme) → Tokens (offset + 1) rest tokens
      → Tokens offset (32 ∷ rest) tokens
  Token : (offset : ℕ) (text rest : List ℕ) (kind : Kind) (tokens : List Lexeme)
      → begins_comment (text ++ rest) ≡ false → IsLongest text rest → meaning text ≡ Some kind
      → Tokens (offset + length text) rest tokens
      → Tokens offset (text ++ rest) (record { kind = kind; start = offset; end = offset + length text } ∷ tokens)

-- ---- the lines of a source

-- how many spaces a line begins with, and what is after them
abbrev pub indent_of : List ℕ → ℕ
indent_of line = prefix_len is_space line

abbrev pub behind_indent : List ℕ → List ℕ
behind_indent line = drop (indent_of line) line

-- These lines, from a number and an offset on, have these rows. A line that counts is at most as deep as `deepest`,
-- one level deeper than the line before it that counts.
pub data Rows : ℕ → ℕ → ℕ → List (List ℕ) → List Row → Type 0 where
  NoLine : (number offset deepest : ℕ) → Rows number offset deepest [] []
  Blank : (number offset deepest : ℕ) (line : List ℕ) (lines : List (List ℕ)) (rows : List Row) → number ≤ MAX_LINES
      → list_all is_character line ≡ true → is_blank (behind_indent line) ≡ true
      → Rows (number + 1) (offset + length line + 1) deepest lines rows
      → Rows number offset deepest (line ∷ lines) rows
  Counts : (number offset deepest level : ℕ) (line : List ℕ) (lines : List (List ℕ)) (tokens : List Lexeme)
      (rows : List Row) → number ≤ MAX_LINES → list_all is_character line ≡ true
      → is_blank (behind_indent line) ≡ false
      → indent_of line ≡ 2 * level → level ≤ deepest → Tokens (offset + 2 * level) (behind_indent line) tokens
      → Rows (number + 1) (offset + length line + 1) (level + 1) lines rows
      → Rows number offset deepest (line ∷ lines) (record { number = number; level = level; tokens = tokens } ∷ rows)

-- a source and its rows; the first line that counts is at level 0
pub record IsSource (source : List ℕ) (rows : List Row) : Type 0 where
  pub small : length source ≤ MAX_BYTES
  pub lines : Rows 1 0 0 (lines_of source) rows

-- lines put together again, each with its line feed
abbrev pub with_feeds : List (List ℕ) → List ℕ
with_feeds [] = []
with_feeds (line ∷ lines) = line ++ 10 ∷ with_feeds lines

-- Lines put together are the text, but for a line feed that its last line may lack, and no line holds a line feed.
pub record AreLines (text : List ℕ) (lines : List (List ℕ)) : Type 0 where
  pub whole : (with_feeds lines ≡ text) ⊎ (with_feeds lines ≡ text ++ 10 ∷ [])
  pub apart : AllByRecursion (λ line. list_all is_in_line line ≡ true) lines

-- ---- where tokens are

-- the bytes of a source from an offset up to another
abbrev pub bytes_between : List ℕ → ℕ → ℕ → List ℕ
bytes_between source start end = take (end - start) (drop start source)

-- a token's span has bytes, lies in the source, and what is there is the token
pub record IsSpelled (source : List ℕ) (token : Lexeme) : Type 0 where
  pub rises : token.start < token.end
  pub within : token.end ≤ length source
  pub means : meaning (bytes_between source token.start token.end) ≡ Some token.kind

-- tokens one after another from an offset on: no two spans meet
abbrev pub AreInOrder : ℕ → List Lexeme → Type 0
AreInOrder offset [] = Unit {0}
AreInOrder offset (token ∷ tokens) = (offset ≤ token.start) × AreInOrder token.end tokens

-- each line's tokens are in the source at their spans, in order
abbrev pub ArePlaced : List ℕ → List Row → Type 0
ArePlaced source rows = AllByRecursion (λ row. AllByRecursion (IsSpelled source) row.tokens × AreInOrder 0
    row.tokens) rows
