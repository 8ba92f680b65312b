-- The characters between the quotes of a literal (occam 2 reference manual; lower case escapes alone are our own
-- choice).
use Rattle.std.specs.Prelude.{ℕ, zero, suc, ◌+◌, ◌*◌, Bool, true, false, ◌&&◌, ◌||◌, List, [], ◌∷◌, Option, Some, None}
use Rattle.std.specs.Prelude.{option_map, option_and_then, ◌==◌, if◌then◌else◌}
use Rattle.std.specs.Char.{is_ascii_hexdigit, digit_value}

-- what a sign denotes after an asterisk: c return, n line feed, t tab, s space, and quotes and the asterisk
-- themselves
abbrev pub escape : ℕ → Option ℕ
escape c =
    if c == 99 then Some 13
    else (if c == 110 then Some 10
    else (if c == 116 then Some 9
    else (if c == 115 then Some 32
    else (if (c == 39 || c == 34) || c == 42 then Some c else None))))

-- two hexadecimal digits after *#
abbrev pub coded : List ℕ → Option (ℕ × ℕ)
coded [] = None
coded (high ∷ []) = None
coded (high ∷ low ∷ rest) =
    if is_ascii_hexdigit high && is_ascii_hexdigit low then Some (16 * digit_value high + digit_value low, 3) else None

-- what follows an asterisk: # is 35
abbrev pub escaped : List ℕ → Option (ℕ × ℕ)
escaped [] = None
escaped (c ∷ rest) = if c == 35 then coded rest else option_map (λ byte. (byte, 1)) (escape c)

-- the character that begins here: its byte, and how many bytes it takes after its first; * is 42
unfoldable pub character_at : List ℕ → Option (ℕ × ℕ)
character_at [] = None
character_at (c ∷ rest) = if c == 42 then escaped rest else Some (c, 0)

-- The bytes that the characters denote, one after another. The number is that of the bytes at the front
-- that belong to a character that was read already.
unfoldable pub decoded : ℕ → List ℕ → Option (List ℕ)
decoded passed [] = Some []
decoded (suc passed) (c ∷ rest) = decoded passed rest
decoded zero (c ∷ rest) =
    option_and_then (λ x. option_map (λ bytes. x.0 ∷ bytes) (decoded x.1 rest)) (character_at (c ∷ rest))

-- The number of bytes before the quote that ends a literal. The byte after an asterisk ends nothing.
unfoldable pub body_len : ℕ → Bool → List ℕ → Option ℕ
body_len quote starred [] = None
body_len quote true (c ∷ rest) = option_map (λ n. n + 1) (body_len quote false rest)
body_len quote false (c ∷ rest) =
    if c == quote then Some 0 else option_map (λ n. n + 1) (body_len quote (c == 42) rest)
