-- How long the token is that begins a text, or what is wrong there.
use Rattle.std.specs.Prelude.{ℕ, zero, suc, pred, ◌+◌, ◌^◌, Bool, false, ◌||◌, List, [], ◌∷◌, length, take, ◌==◌}
use Rattle.std.specs.Prelude.{nat_lt}
use Rattle.std.specs.Prelude.{if◌then◌else◌, Option, Some, None, ok_or, Result, Ok, Err}
use Rattle.std.specs.List.{prefix_len}
use Rattle.std.specs.Char.{is_ascii_alphabetic, is_ascii_digit, is_ascii_hexdigit}
use Rattle.occam_layout.specs.Characters.{character_at, body_len}
use Rattle.occam_layout.specs.Kind.{is_sign}
use Rattle.occam_layout.specs.Reading.{◌>>=◌, is_name_byte, value, begins_comment}
use Rattle.reason_texts.specs.declared.tokens.BadToken.{BadToken}
use Rattle.reason_texts.specs.declared.tokens.TokenFault.{TokenFault}
use Rattle.reason_texts.specs.declared.tokens.TokenFault.TheVariants as wrong

-- what is wrong where a token should begin: how many bytes are before those that are meant, and how many they are
abbrev pub bad : TokenFault → ℕ → ℕ → BadToken
bad fault at len = record { at = at; len = len; fault = fault }

-- decimal digits, as many as there are
unfoldable pub decimal_len : List ℕ → Result ℕ BadToken
decimal_len bytes =
    let len = prefix_len is_ascii_digit bytes in
    if nat_lt (value 10 (take len bytes)) (2 ^ 31) then Ok len else Err (bad wrong.LargeNumber 0 len)

-- after a #, hexadecimal digits, as many as there are
unfoldable pub hexadecimal_len : List ℕ → Result ℕ BadToken
hexadecimal_len bytes =
    let count = prefix_len is_ascii_hexdigit bytes in
    if count == 0 || nat_lt 8 count then Err (bad (wrong.HexadecimalDigits count) 0 (count + 1)) else Ok (count + 1)

-- what follows a character, if there is one
abbrev pub next_or : ℕ → (ℕ → Result ℕ ℕ) → Option (ℕ × ℕ) → Result ℕ ℕ
next_or at others None = Err at
next_or at others (Some x) = others x.1

-- How many characters are spelled between quotes, or the first place where none is. The first number says how many
-- bytes belong to a character that was read already, the second counts the characters, the third the bytes.
unfoldable pub characters_in : ℕ → ℕ → ℕ → List ℕ → Result ℕ ℕ
characters_in passed count at [] = Ok count
characters_in (suc passed) count at (c ∷ rest) = characters_in passed count (at + 1) rest
characters_in zero count at (c ∷ rest) =
    next_or at (λ passed. characters_in passed (count + 1) (at + 1) rest) (character_at (c ∷ rest))

abbrev pub spelled : ℕ → Result ℕ ℕ → Result (ℕ × ℕ) BadToken
spelled len (Ok count) = Ok (count, len)
spelled len (Err at) = Err (bad wrong.Unspelled (at + 1) 2)

-- after a quote, how many characters and bytes are before the quote that ends the literal
unfoldable pub quoted : ℕ → List ℕ → Result (ℕ × ℕ) BadToken
quoted quote bytes = do
  len ← ok_or (body_len quote false bytes) (bad wrong.Unclosed 0 1)
  spelled len (characters_in 0 0 0 (take len bytes))

-- after a ', which is 39
unfoldable pub character_len : List ℕ → Result ℕ BadToken
character_len bytes = do
  body ← quoted 39 bytes
  if body.0 == 1 then Ok (body.1 + 2) else Err (bad wrong.NotOneCharacter 0 (body.1 + 2))

-- after a ", which is 34
unfoldable pub string_len : List ℕ → Result ℕ BadToken
string_len bytes = do
  body ← quoted 34 bytes
  Ok (body.1 + 2)

-- a sign of one byte
unfoldable pub single_len : ℕ → Result ℕ BadToken
single_len c = if is_sign (c ∷ []) then Ok 1 else Err (bad wrong.NoToken 0 1)

-- a sign of two bytes, else one of one byte
unfoldable pub sign_len : List ℕ → Result ℕ BadToken
sign_len [] = Err (bad wrong.NoToken 0 1)
sign_len (c ∷ []) = single_len c
sign_len (c ∷ d ∷ rest) = if is_sign (c ∷ d ∷ []) then Ok 2 else single_len c

-- the token that begins here: # is 35
unfoldable pub token_len : List ℕ → Result ℕ BadToken
token_len [] = Err (bad wrong.NoToken 0 1)
token_len (c ∷ rest) =
    if is_ascii_alphabetic c then Ok (prefix_len is_name_byte (c ∷ rest))
    else (if is_ascii_digit c then decimal_len (c ∷ rest)
    else (if c == 35 then hexadecimal_len rest
    else (if c == 39 then character_len rest
    else (if c == 34 then string_len rest
    else sign_len (c ∷ rest)))))

-- a place, unless a token is there, after which others may be bad
abbrev pub bad_or : ℕ → (ℕ → Option BadToken) → Result ℕ BadToken → Option BadToken
bad_or at others (Ok len) = others (pred len)
bad_or at others (Err b) = Some (bad b.fault (at + b.at) b.len)

-- The first place of a line where no token begins, and why. The first number says how many bytes belong to a token that
-- was read already, the second counts the bytes. A space is 32.
unfoldable pub bad_token : ℕ → ℕ → List ℕ → Option BadToken
bad_token passed at [] = None
bad_token (suc passed) at (c ∷ rest) = bad_token passed (at + 1) rest
bad_token zero at (c ∷ rest) =
    if c == 32 then bad_token zero (at + 1) rest
    else (if begins_comment (c ∷ rest) then None
    else bad_or at (λ passed. bad_token passed (at + 1) rest) (token_len (c ∷ rest)))
