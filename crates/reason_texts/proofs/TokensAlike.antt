-- A token that is not read is bad, for a reason of the same number.
use Rattle.std.proofs.Common.{◌≡◌, ℕ, zero, suc, ◌+◌, ◌^◌, Bool, true, false, cond, eqb, List, [], ◌∷◌, length, take}
use Rattle.std.proofs.Common.{Option, Some, None, Result, Ok, Err, refl, sym, ap, ◌∙◌, arith}
use Rattle.std.specs.Prelude.{◌||◌, ◌==◌, pos, pred, nat_lt, ok_or, option_map, option_and_then}
use Rattle.std.specs.List.{prefix_len}
use Rattle.std.proofs.lemmas.Bool.{ne_eqb}
use Rattle.std.specs.Int.{w32, cast_signed}
use Rattle.std.specs.Char.{is_ascii_alphabetic, is_ascii_digit, is_ascii_hexdigit}
use Rattle.occam_layout.specs.declared.fault.TheConstants.{CHARACTER, LITERAL}
use Rattle.occam_layout.specs.Fault.{number_of}
use Rattle.occam_layout.specs.Characters as characters
use Rattle.occam_layout.specs.Kind.{Kind, Mark, Integer, Character, Text, is_sign, sign_of}
use Rattle.occam_layout.specs.Reading as reading
use Rattle.occam_layout.specs.Reading.{◌>>=◌, Lexeme, is_name_byte, value, begins_comment, tokens_at}
use Rattle.reason_texts.specs.declared.tokens.BadToken.{BadToken}
use Rattle.reason_texts.specs.declared.tokens.TokenFault.TheVariants as wrong
use Rattle.reason_texts.specs.Tokens.{bad}
use Rattle.reason_texts.specs.LayoutReasons.{token_number}
use Rattle.reason_texts.specs.Tokens.{decimal_len, hexadecimal_len, next_or, characters_in, spelled, quoted}
use Rattle.reason_texts.specs.Tokens.{character_len, string_len, single_len, sign_len, token_len, bad_or, bad_token}

-- Both take the same number of bytes, or both fail with the same number. The faults are those of the layout, which
-- number_of numbers.
abbrev pub SameBy : {A E : Type 0} → (E → ℕ) → Result (A × ℕ) E → Result ℕ BadToken → Type 0
SameBy number (Ok x) (Ok n) = x.1 ≡ n
SameBy number (Err f) (Err g) = token_number g.fault ≡ number f
SameBy number (Ok x) (Err g) = ⊥
SameBy number (Err f) (Ok n) = ⊥

Same-cond : {A E : Type 0} (number : E → ℕ) (b : Bool) (x y : Result (A × ℕ) E) (m n : Result ℕ BadToken)
    → SameBy number x m → SameBy number y n → SameBy number (cond b x y) (cond b m n)
Same-cond number true x y m n h k = h
Same-cond number false x y m n h k = k

word-same : (bytes : List ℕ) → SameBy number_of (Ok (reading.word_at bytes)) (Ok (prefix_len is_name_byte bytes))
unfolding reading.word_at
word-same bytes = refl

decimal-same : (bytes : List ℕ) → SameBy number_of (reading.decimal_at bytes) (decimal_len bytes)
unfolding reading.decimal_at decimal_len
decimal-same bytes =
    Same-cond number_of (nat_lt (value 10 (take (prefix_len is_ascii_digit bytes) bytes)) (2 ^ 31)) _ _ _ _ refl refl

hexadecimal-same : (rest : List ℕ) → SameBy number_of (reading.hexadecimal_at rest) (hexadecimal_len rest)
unfolding reading.hexadecimal_at hexadecimal_len
hexadecimal-same rest =
    let len = prefix_len is_ascii_hexdigit rest in
    Same-cond number_of (len == 0 || nat_lt 8 len) _ _ _ _ refl refl

-- ---- what is between quotes

-- as many characters as bytes that they denote, from a count on, or none of either
abbrev Counts : ℕ → Option (List ℕ) → Result ℕ ℕ → Type 0
Counts n (Some bytes) (Ok m) = m ≡ n + length bytes
Counts n None (Err at) = Unit {0}
Counts n (Some bytes) (Err at) = ⊥
Counts n None (Ok m) = ⊥

one_more : (n byte : ℕ) (meant : Option (List ℕ)) (found : Result ℕ ℕ) → Counts (n + 1) meant found
    → Counts n (option_map (λ bytes. byte ∷ bytes) meant) found
one_more n byte (Some bytes) (Ok m) h = omega (arith, h)
one_more n byte None (Err at) h = tt
one_more n byte (Some bytes) (Err at) h = absurd h
one_more n byte None (Ok m) h = absurd h

after_one : (n at : ℕ) (rest : List ℕ) (x : Option (ℕ × ℕ))
    → ((passed : ℕ) → Counts (n + 1) (characters.decoded passed rest) (characters_in passed (n + 1) (at + 1) rest))
    → Counts n (option_and_then (λ y. option_map (λ bytes. y.0 ∷ bytes) (characters.decoded y.1 rest)) x)
    (next_or at (λ passed. characters_in passed (n + 1) (at + 1) rest) x)
after_one n at rest None h = tt
after_one n at rest (Some x) h = one_more n x.0 (characters.decoded x.1 rest)
    (characters_in x.1 (n + 1) (at + 1) rest) (h x.1)

counted : (passed n at : ℕ) (bytes : List ℕ) → Counts n (characters.decoded passed bytes) (characters_in passed n at
    bytes)
unfolding characters.decoded characters_in
counted passed n at [] = omega arith
counted (suc passed) n at (c ∷ rest) = counted passed n (at + 1) rest
counted zero n at (c ∷ rest) = after_one n at rest (characters.character_at (c ∷ rest))
    (λ passed. counted passed (n + 1) (at + 1) rest)

abbrev meant_of : {E : Type 0} → E → ℕ → Option (List ℕ) → Result (List ℕ × ℕ) E
meant_of literal len meant = ok_or meant literal >>= λ bytes. Ok (bytes, len)

-- what is made of as many bytes as characters is the same
abbrev MakesSame : {E : Type 0} → (E → ℕ) → ((List ℕ × ℕ) → Result (Kind × ℕ) E) → ((ℕ × ℕ) → Result ℕ BadToken)
    → Type 0
MakesSame number make measure = (bytes : List ℕ) (count len : ℕ) → count ≡ 0 + length bytes
    → SameBy number (make (bytes, len)) (measure (count, len))

body_same : {E : Type 0} (number : E → ℕ) (literal : E) (make : (List ℕ × ℕ) → Result (Kind × ℕ) E)
    (measure : (ℕ × ℕ) → Result ℕ BadToken) (len : ℕ) (meant : Option (List ℕ)) (found : Result ℕ ℕ)
    → LITERAL ≡ number literal → MakesSame number make measure → Counts 0 meant found
    → SameBy number (meant_of literal len meant >>= make) (spelled len found >>= measure)
body_same number literal make measure len (Some bytes) (Ok m) is_literal same h = same bytes m len h
body_same number literal make measure len None (Err at) is_literal same h = is_literal
body_same number literal make measure len (Some bytes) (Err at) is_literal same h = absurd h
body_same number literal make measure len None (Ok m) is_literal same h = absurd h

quoted_same : {E : Type 0} (number : E → ℕ) (literal : E) (make : (List ℕ × ℕ) → Result (Kind × ℕ) E)
    (measure : (ℕ × ℕ) → Result ℕ BadToken) (bytes : List ℕ) (found : Option ℕ) → LITERAL ≡ number literal
    → MakesSame number make measure
    → SameBy number ((ok_or found literal >>= λ len. meant_of literal len (characters.decoded 0 (take len bytes)))
    >>= make)
    ((ok_or found (bad wrong.Unclosed 0 1) >>= λ len. spelled len (characters_in 0 0 0 (take len bytes))) >>= measure)
quoted_same number literal make measure bytes None is_literal same = is_literal
quoted_same number literal make measure bytes (Some len) is_literal same =
    body_same number literal make measure len (characters.decoded 0 (take len bytes))
    (characters_in 0 0 0 (take len bytes)) is_literal same (counted 0 0 0 (take len bytes))

string-same : (bytes : List ℕ) → SameBy number_of (reading.string_at bytes) (string_len bytes)
unfolding reading.string_at reading.quoted_at string_len quoted
string-same bytes =
    quoted_same number_of _ (λ body. Ok (Text body.0, body.1 + 2)) (λ body. Ok (body.1 + 2)) bytes
    (characters.body_len 34 false bytes) refl (λ meant count len h. refl)

abbrev one_of : (ℕ × ℕ) → Result ℕ BadToken
one_of body = cond (eqb body.0 1) (Ok (body.1 + 2)) (Err (bad wrong.NotOneCharacter 0 (body.1 + 2)))

one_byte_same : (bytes : List ℕ) (count len : ℕ) → count ≡ 0 + length bytes
    → SameBy number_of (reading.one_byte bytes >>= λ byte. Ok (Character byte, len + 2)) (one_of (count, len))
one_byte_same [] count len h = rw h refl
one_byte_same (byte ∷ []) count len h = rw h refl
one_byte_same (byte ∷ other ∷ others) count len h =
    let more : eqb count 1 ≡ false = ne_eqb _ _ (λ one. omega (arith, h, one)) in rw more refl

character-same : (bytes : List ℕ) → SameBy number_of (reading.character_at bytes) (character_len bytes)
unfolding reading.character_at reading.quoted_at character_len quoted
character-same bytes =
    quoted_same number_of _ (λ body. reading.one_byte body.0 >>= λ byte. Ok (Character byte, body.1 + 2)) one_of bytes
    (characters.body_len 39 false bytes) refl one_byte_same

-- ---- signs

single_if : {E : Type 0} (number : E → ℕ) (none : E) (b : Bool) (c : ℕ) → CHARACTER ≡ number none
    → SameBy number (ok_or (cond b (Some (Mark (c ∷ []))) None) none >>= λ kind. Ok (kind, 1))
    (cond b (Ok 1) (Err (bad wrong.NoToken 0 1)))
single_if number none true c h = refl
single_if number none false c h = h

single-same : (c : ℕ) → SameBy number_of (reading.single_at c) (single_len c)
unfolding reading.single_at single_len
single-same c = single_if number_of _ (is_sign (c ∷ [])) c refl

pair_if : (b : Bool) (text : List ℕ) (c : ℕ)
    → SameBy number_of (reading.pair_or (cond b (Some (Mark text)) None) (reading.single_at c))
    (cond b (Ok 2) (single_len c))
pair_if true text c = refl
pair_if false text c = single-same c

sign-same : (bytes : List ℕ) → SameBy number_of (reading.sign_at bytes) (sign_len bytes)
unfolding reading.sign_at sign_len
sign-same [] = refl
sign-same (c ∷ []) = single-same c
sign-same (c ∷ d ∷ rest) = pair_if (is_sign (c ∷ d ∷ [])) (c ∷ d ∷ []) c

token-same : (bytes : List ℕ) → SameBy number_of (reading.token_at bytes) (token_len bytes)
unfolding reading.token_at token_len
token-same [] = refl
token-same (c ∷ rest) =
    Same-cond number_of (is_ascii_alphabetic c) _ _ _ _ (word-same (c ∷ rest))
    (Same-cond number_of (is_ascii_digit c) _ _ _ _ (decimal-same (c ∷ rest))
    (Same-cond number_of (eqb c 35) _ _ _ _ (hexadecimal-same rest)
    (Same-cond number_of (eqb c 39) _ _ _ _ (character-same rest)
    (Same-cond number_of (eqb c 34) _ _ _ _ (string-same rest) (sign-same (c ∷ rest))))))

-- ---- the tokens of a line

-- a fault that tokens have is that of the first bad one
abbrev pub BlamesBy : {E : Type 0} → (E → ℕ) → Result (List Lexeme) E → Option BadToken → Type 0
BlamesBy number (Ok tokens) found = Unit {0}
BlamesBy number (Err fault) None = ⊥
BlamesBy number (Err fault) (Some b) = token_number b.fault ≡ number fault

Blames-cond : {E : Type 0} (number : E → ℕ) (b : Bool) (x y : Result (List Lexeme) E) (m n : Option BadToken)
    → BlamesBy number x m → BlamesBy number y n → BlamesBy number (cond b x y) (cond b m n)
Blames-cond number true x y m n h k = h
Blames-cond number false x y m n h k = k

Blames-map : {E : Type 0} (number : E → ℕ) (f : List Lexeme → List Lexeme) (others : Result (List Lexeme) E)
    (found : Option BadToken) → BlamesBy number others found
    → BlamesBy number (others >>= λ tokens. Ok (f tokens)) found
Blames-map number f (Ok tokens) found h = tt
Blames-map number f (Err fault) found h = h

after_token : {E : Type 0} (number : E → ℕ) (offset at : ℕ) (read : ℕ → Result (List Lexeme) E) (rest : List ℕ)
    (first : Result (Kind × ℕ) E) (len : Result ℕ BadToken) → SameBy number first len
    → ((passed : ℕ) → BlamesBy number (read passed) (bad_token passed (at + 1) rest))
    → BlamesBy number (first >>= λ x. read (pred x.1) >>= λ others. Ok
    (record { kind = x.0; start = offset; end = offset + x.1 } ∷ others))
    (bad_or at (λ passed. bad_token passed (at + 1) rest) len)
after_token number offset at read rest (Ok x) (Ok n) same h =
    rw (← same) (Blames-map number (λ others. record { kind = x.0; start = offset; end = offset + x.1 } ∷ others)
    (read (pred x.1)) (bad_token (pred x.1) (at + 1) rest) (h (pred x.1)))
after_token number offset at read rest (Err f) (Err g) same h = same
after_token number offset at read rest (Ok x) (Err g) same h = absurd same
after_token number offset at read rest (Err f) (Ok n) same h = absurd same

pub tokens_blamed : (passed offset at : ℕ) (bytes : List ℕ)
    → BlamesBy number_of (tokens_at passed offset bytes) (bad_token passed at bytes)
unfolding tokens_at bad_token
tokens_blamed passed offset at [] = tt
tokens_blamed (suc passed) offset at (c ∷ rest) = tokens_blamed passed (offset + 1) (at + 1) rest
tokens_blamed zero offset at (c ∷ rest) =
    Blames-cond number_of (eqb c 32) _ _ _ _ (tokens_blamed zero (offset + 1) (at + 1) rest)
    (Blames-cond number_of (begins_comment (c ∷ rest)) _ _ _ _ tt
    (after_token number_of offset at (λ passed. tokens_at passed (offset + 1) rest) rest
    (reading.token_at (c ∷ rest)) (token_len (c ∷ rest)) (token-same (c ∷ rest))
    (λ passed. tokens_blamed passed (offset + 1) (at + 1) rest)))
