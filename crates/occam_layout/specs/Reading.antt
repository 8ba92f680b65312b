-- Reading a source from left to right, with the first fault that is met.
use Rattle.std.specs.Prelude.{◌≡◌, ◌⊎◌, ℕ, zero, suc, pred, pos, ◌+◌, ◌*◌, ◌/◌, ◌%◌, ◌^◌, Bool, not, ◌&&◌, ◌||◌, false}
use Rattle.std.specs.Prelude.{List, [], ◌∷◌, ◌++◌, length, map, take, drop, fold, codes, nat_eq, nat_lt, ◌==◌}
use Rattle.std.specs.Prelude.{if◌then◌else◌, Option, Some, None, unwrap_or, ok_or, option_to_list, Result, Ok, Err}
use Rattle.std.specs.Borrow.{Bor}
use Rattle.std.specs.Global.{Vec}
use Rattle.std.specs.List.{prefix_len, list_all, starts_with}
use Rattle.std.specs.Char.{is_ascii_alphabetic, is_ascii_alphanumeric, is_ascii_digit, is_ascii_hexdigit, digit_value}
use Rattle.std.specs.Int.{w32, cast_signed}
use Rattle.occam_layout.specs.declared.fault.Fault.{Fault}
use Rattle.occam_layout.specs.declared.fault.Fault.TheVariants as faults
use Rattle.occam_layout.specs.declared.fault.LayoutFault.{LayoutFault}
use Rattle.occam_layout.specs.declared.fault.ScanError.{ScanError}
use Rattle.occam_layout.specs.declared.fault.ScanError.TheVariants as scans
use Rattle.occam_layout.specs.declared.layout.TheConstants.{MAX_BYTES, MAX_LINES}
use Rattle.occam_layout.specs.declared.token.Line.{Line}
use Rattle.occam_layout.specs.declared.token.Token.{Token}
use Rattle.occam_layout.specs.declared.text.Text as text
use Rattle.occam_layout.specs.declared.token.TokenKind.{TokenKind}
use Rattle.occam_layout.specs.Characters.{decoded, body_len}
use Rattle.occam_layout.specs.Fault.{refused, out_of_memory}
use Rattle.occam_layout.specs.Kind.{Kind, kind_of, bytes_of, Name, Integer, Character, Text, keywords, keyword_among}
use Rattle.occam_layout.specs.Kind.{sign_of}

infixl 10 ◌>>=◌
abbrev pub ◌>>=◌ : {A B E : Type 0} → Result A E → (A → Result B E) → Result B E
(Ok x) >>= f = f x
(Err e) >>= f = Err e

-- what a function of the program found
abbrev pub seen : Result (TokenKind × ℕ) Fault → Result (Kind × ℕ) Fault
seen (Ok x) = Ok (kind_of x.0, x.1)
seen (Err fault) = Err fault

abbrev pub seen_text : Result (text.Text × ℕ) Fault → Result (List ℕ × ℕ) Fault
seen_text (Ok x) = Ok (bytes_of x.0, x.1)
seen_text (Err fault) = Err fault

-- ---- tokens: what begins a text, and how many bytes it takes

-- letters, digits and dots: . is 46
abbrev pub is_name_byte : ℕ → Bool
is_name_byte c = is_ascii_alphanumeric c || c == 46

-- a keyword or a name, as long as it goes on
unfoldable pub word_at : List ℕ → Kind × ℕ
word_at bytes =
    let len = prefix_len is_name_byte bytes in
    let text = take len bytes in
    (unwrap_or (keyword_among keywords text) (Name text), len)

-- what digits of a base spell
abbrev pub value : ℕ → List ℕ → ℕ
value base digits = fold (λ n digit. n * base + digit_value digit) 0 digits

-- decimal digits, as many as there are: an INT
unfoldable pub decimal_at : List ℕ → Result (Kind × ℕ) Fault
decimal_at bytes =
    let len = prefix_len is_ascii_digit bytes in
    let number = value 10 (take len bytes) in
    if nat_lt number (2 ^ 31) then Ok (Integer (pos number), len) else Err faults.Literal

-- after a #, hexadecimal digits, as many as there are: 1 to 8 of them, the bits of a word
unfoldable pub hexadecimal_at : List ℕ → Result (Kind × ℕ) Fault
hexadecimal_at bytes =
    let len = prefix_len is_ascii_hexdigit bytes in
    if len == 0 || nat_lt 8 len then Err faults.Literal
    else Ok (Integer (cast_signed w32 (value 16 (take len bytes))), len + 1)

-- after a quote, what is before the next: its bytes, and how many bytes its spelling has
unfoldable pub quoted_at : ℕ → List ℕ → Result (List ℕ × ℕ) Fault
quoted_at quote bytes = do
  len ← ok_or (body_len quote false bytes) faults.Literal
  meant ← ok_or (decoded 0 (take len bytes)) faults.Literal
  Ok (meant, len)

-- a character literal has one byte
abbrev pub one_byte : List ℕ → Result ℕ Fault
one_byte [] = Err faults.Literal
one_byte (byte ∷ []) = Ok byte
one_byte (byte ∷ other ∷ others) = Err faults.Literal

-- after a ', which is 39
unfoldable pub character_at : List ℕ → Result (Kind × ℕ) Fault
character_at bytes = do
  body ← quoted_at 39 bytes
  byte ← one_byte body.0
  Ok (Character byte, body.1 + 2)

-- after a ", which is 34
unfoldable pub string_at : List ℕ → Result (Kind × ℕ) Fault
string_at bytes = do
  body ← quoted_at 34 bytes
  Ok (Text body.0, body.1 + 2)

-- a sign of one byte
unfoldable pub single_at : ℕ → Result (Kind × ℕ) Fault
single_at c = do
  kind ← ok_or (sign_of (c ∷ [])) faults.Character
  Ok (kind, 1)

abbrev pub pair_or : Option Kind → Result (Kind × ℕ) Fault → Result (Kind × ℕ) Fault
pair_or (Some kind) single = Ok (kind, 2)
pair_or None single = single

-- a sign of two bytes, else one of one byte
unfoldable pub sign_at : List ℕ → Result (Kind × ℕ) Fault
sign_at [] = Err faults.Character
sign_at (c ∷ []) = single_at c
sign_at (c ∷ d ∷ rest) = pair_or (sign_of (c ∷ d ∷ [])) (single_at c)

-- the token that begins here: # is 35
unfoldable pub token_at : List ℕ → Result (Kind × ℕ) Fault
token_at [] = Err faults.Character
token_at (c ∷ rest) =
    if is_ascii_alphabetic c then Ok (word_at (c ∷ rest))
    else (if is_ascii_digit c then decimal_at (c ∷ rest)
    else (if c == 35 then hexadecimal_at rest
    else (if c == 39 then character_at rest
    else (if c == 34 then string_at rest
    else sign_at (c ∷ rest)))))

-- ---- lines

-- a token, and the offsets where it begins and ends
pub record Lexeme : Type 0 where
  pub kind : Kind
  pub start : ℕ
  pub end : ℕ

pub record Row : Type 0 where
  pub number : ℕ
  pub level : ℕ
  pub tokens : List Lexeme

abbrev pub begins_comment : List ℕ → Bool
begins_comment bytes = starts_with nat_eq bytes (codes "--")

-- The tokens of a line from an offset on. The number says how many bytes at the front belong to a token that
-- was read already. A space is 32.
unfoldable pub tokens_at : ℕ → ℕ → List ℕ → Result (List Lexeme) Fault
tokens_at passed offset [] = Ok []
tokens_at (suc passed) offset (c ∷ rest) = tokens_at passed (offset + 1) rest
tokens_at zero offset (c ∷ rest) =
    if c == 32 then tokens_at zero (offset + 1) rest
    else (if begins_comment (c ∷ rest) then Ok []
    else (token_at (c ∷ rest) >>= λ first.
    tokens_at (pred first.1) (offset + 1) rest >>= λ others.
    Ok (record { kind = first.0; start = offset; end = offset + first.1 } ∷ others)))

-- the characters of a source, but for the line feed
abbrev pub is_character : ℕ → Bool
is_character c = not (nat_lt c 32) && nat_lt c 127

abbrev pub is_space : ℕ → Bool
is_space c = c == 32

-- a line that doesn't count: nothing but spaces, or a comment after them
abbrev pub is_blank : List ℕ → Bool
is_blank body = length body == 0 || begins_comment body

-- A line after its indentation: its number, the offset where it begins, the level that it may have at most,
-- and how many spaces it begins with.
unfoldable pub row_behind : ℕ → ℕ → ℕ → ℕ → List ℕ → Result (Option Row) Fault
row_behind number offset deepest indent body =
    if is_blank body then Ok None
    else (if indent % 2 == 1 then Err faults.OddIndentation
    else (if nat_lt deepest (indent / 2) then Err faults.TooDeep
    else (tokens_at 0 (offset + indent) body >>= λ tokens.
    Ok (Some (record { number = number; level = indent / 2; tokens = tokens })))))

unfoldable pub row_at : ℕ → ℕ → ℕ → List ℕ → Result (Option Row) Fault
row_at number offset deepest bytes =
    let indent = prefix_len is_space bytes in
    if list_all is_character bytes then row_behind number offset deepest indent (drop indent bytes)
    else Err faults.Character

-- ---- a whole source

-- a line feed is 10
abbrev pub is_in_line : ℕ → Bool
is_in_line c = not (c == 10)

abbrev pub joined : ℕ → List (List ℕ) → List (List ℕ)
joined c [] = (c ∷ []) ∷ []
joined c (line ∷ lines) = (c ∷ line) ∷ lines

-- The lines of a text, without the line feeds that end them. What follows the last line feed is a line
-- only where it has a byte.
unfoldable pub lines_of : List ℕ → List (List ℕ)
lines_of [] = []
lines_of (c ∷ rest) = if c == 10 then [] ∷ lines_of rest else joined c (lines_of rest)

-- a fault of a line, at its number
abbrev pub told_at : {A : Type 0} → ℕ → Result A Fault → Result A LayoutFault
told_at number (Ok x) = Ok x
told_at number (Err fault) = Err (refused fault number)

-- a line may be one level deeper than the line before it that counts
abbrev pub deepest_after : ℕ → Option Row → ℕ
deepest_after deepest None = deepest
deepest_after deepest (Some row) = row.level + 1

-- The lines that count, from a line number and an offset on.
unfoldable pub rows_at : ℕ → ℕ → ℕ → List (List ℕ) → Result (List Row) LayoutFault
rows_at number offset deepest [] = Ok []
rows_at number offset deepest (bytes ∷ rest) =
    if nat_lt MAX_LINES number then Err (refused faults.TooLarge number)
    else (told_at number (row_at number offset deepest bytes) >>= λ found.
    rows_at (number + 1) (offset + length bytes + 1) (deepest_after deepest found) rest >>= λ others.
    Ok (option_to_list found ++ others))

-- a whole source, whose first line that counts is at level 0
unfoldable pub read : List ℕ → Result (List Row) LayoutFault
read source =
    if nat_lt MAX_BYTES (length source) then Err (refused faults.TooLarge 0) else rows_at 1 0 0 (lines_of source)

-- ---- what the program returns

abbrev pub lexeme_of : Token → Lexeme
lexeme_of t = record { kind = kind_of t.kind; start = t.start; end = t.end }

abbrev pub row_of : Line → Row
row_of l = record { number = l.number; level = l.level; tokens = map lexeme_of l.tokens.items }

-- What a function returned, seen by view, is what reading gives, unless memory ran out.
abbrev pub Fails : {Y : Type 0} → ScanError → Result Y Fault → Type 0
Fails scans.Memory read = Unit {0}
Fails (scans.Fault fault) read = read ≡ Err fault

abbrev pub Gives : {X Y : Type 0} → (X → Y) → Result X ScanError → Result Y Fault → Type 0
Gives view (Ok x) read = read ≡ Ok (view x)
Gives view (Err e) read = Fails e read

-- the same, for the lines of a source
abbrev pub Answers : Result (Vec Line) LayoutFault → Result (List Row) LayoutFault → Type 0
Answers (Ok lines) read = read ≡ Ok (map row_of lines.items)
Answers (Err e) read = (e ≡ out_of_memory) ⊎ (read ≡ Err e)

-- A step of a loop over tokens: `rest` reads what is left from an offset on.
abbrev pub Continues : (ℕ → List ℕ → Result (List Lexeme) Fault) → ℕ → List ℕ
    → Result (Option (Token × Bor (List ℕ))) Fault → Type 0
Continues reads offset line (Ok None) = reads offset line ≡ Ok []
Continues reads offset line (Ok (Some x)) = reads offset
    line ≡ (reads x.0.end x.1.now >>= λ others. Ok (lexeme_of x.0 ∷ others))
Continues reads offset line (Err fault) = reads offset line ≡ Err fault
