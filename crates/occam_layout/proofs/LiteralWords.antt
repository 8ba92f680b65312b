-- Each token that is read is a word or a byte, if it is a number.
use Rattle.std.proofs.Common.{◌≡◌, ℕ, pos, ◌+◌, ◌^◌, Bool, true, false, cond, eqb, List, [], ◌∷◌, take}
use Rattle.std.proofs.Common.{Option, Some, None, Result, Ok, Err, refl, sym, subst}
use Rattle.std.specs.Prelude.{◌||◌, ok_or, nat_lt, unwrap_or, bytes_eq, IfSome, IfOk}
use Rattle.std.specs.Int.{w32, cast_signed}
use Rattle.std.specs.Char.{is_ascii_alphabetic, is_ascii_digit, is_ascii_hexdigit}
use Rattle.std.specs.List.{prefix_len, list_any}
use Rattle.std.proofs.lemmas.Bool.{ltb-false, cond_both, and_parts, or_parts}
use Rattle.word_arithmetic.proofs.BitLaws.{cast_fits}
use Rattle.word_arithmetic.proofs.WordLaws.{is_word_in}
use Rattle.occam_layout.specs.declared.fault.Fault.{Fault}
use Rattle.occam_layout.specs.declared.fault.Fault.TheVariants as faults
use Rattle.occam_layout.specs.Characters.{decoded, body_len}
use Rattle.occam_layout.specs.Kind.{Kind, Mark, Name, Integer, Character, Text, keywords, sign_of, is_sign}
use Rattle.occam_layout.specs.Reading.{◌>>=◌, is_name_byte, value, word_at, decimal_at, hexadecimal_at, quoted_at}
use Rattle.occam_layout.specs.Reading.{one_byte}
use Rattle.occam_layout.specs.Reading.{character_at, string_at, single_at, pair_or, sign_at, token_at}
use Rattle.occam_layout.specs.Words.{is_byte, are_bytes, is_in_words}
use Rattle.occam_layout.proofs.Numbers.{fits_word}
use Rattle.occam_layout.proofs.QuotedBytes.{AreSmall, decoded_bytes, front_small}

abbrev pub IsInWords : Result (Kind × ℕ) Fault → Type 0
IsInWords r = IfOk r (λ x. is_in_words x.0 ≡ true)

-- ---- results

any_ok : {A E : Type 0} (r : Result A E) → IfOk r (λ x. Unit {0})
any_ok (Ok x) = tt
any_ok (Err e) = tt

ok_if : {A E : Type 0} (P : A → Type 0) (o : Option A) (e : E) → IfSome o P → IfOk (ok_or o e) P
ok_if P (Some x) e h = h
ok_if P None e h = tt

then_if : {A B E : Type 0} (P : A → Type 0) (Q : B → Type 0) (r : Result A E) (f : A → Result B E) → IfOk r P
    → ((x : A) → P x → IfOk (f x) Q) → IfOk (r >>= f) Q
then_if P Q (Ok x) f h k = k x h
then_if P Q (Err e) f h k = tt

-- ---- names, keywords and signs

marked_or_named : (t : Bool) (text : List ℕ)
    → is_in_words (unwrap_or (cond t (Some (Mark text)) None) (Name text)) ≡ true
marked_or_named true text = refl
marked_or_named false text = refl

word_words : (bytes : List ℕ) → is_in_words (word_at bytes).0 ≡ true
unfolding word_at
word_words bytes =
    let text = take (prefix_len is_name_byte bytes) bytes in
    marked_or_named (list_any (bytes_eq text) keywords) text

sign_words : (text : List ℕ) → IfSome (sign_of text) (λ k. is_in_words k ≡ true)
sign_words text =
    cond_both (is_sign text) (Some (Mark text)) None (λ o. IfSome o (λ k. is_in_words k ≡ true)) (λ h. refl) (λ h. tt)

single_words : (c : ℕ) → IsInWords (single_at c)
unfolding single_at
single_words c =
    then_if (λ k. is_in_words k ≡ true) (λ x. is_in_words x.0 ≡ true) (ok_or (sign_of (c ∷ [])) faults.Character)
    (λ kind. Ok (kind, 1)) (ok_if (λ k. is_in_words k ≡ true) (sign_of (c ∷ [])) faults.Character (sign_words (c ∷ [])))
    (λ k h. h)

pair_words : (pair : Option Kind) (single : Result (Kind × ℕ) Fault) → IfSome pair (λ k. is_in_words k ≡ true)
    → IsInWords single → IsInWords (pair_or pair single)
pair_words (Some kind) single h k = h
pair_words None single h k = k

signs_words : (bytes : List ℕ) → IsInWords (sign_at bytes)
unfolding sign_at
signs_words [] = tt
signs_words (c ∷ []) = single_words c
signs_words (c ∷ d ∷ rest) =
    pair_words (sign_of (c ∷ d ∷ [])) (single_at c) (sign_words (c ∷ d ∷ [])) (single_words c)

-- ---- numbers

decimal_words : (bytes : List ℕ) → IsInWords (decimal_at bytes)
unfolding decimal_at
decimal_words bytes =
    let len = prefix_len is_ascii_digit bytes in
    let number = value 10 (take len bytes) in
    cond_both (nat_lt number (2 ^ 31)) (Ok (Integer (pos number), len)) (Err faults.Literal) IsInWords (λ h. h)
    (λ h. tt)

hexadecimal_words : (bytes : List ℕ) → IsInWords (hexadecimal_at bytes)
unfolding hexadecimal_at
hexadecimal_words bytes =
    let len = prefix_len is_ascii_hexdigit bytes in
    let number = value 16 (take len bytes) in
    cond_both (eqb len 0 || nat_lt 8 len) (Err faults.Literal) (Ok (Integer (cast_signed w32 number), len + 1))
    IsInWords (λ h. tt)
    (λ h. is_word_in (cast_signed w32 number)
    (cast_fits number (fits_word bytes (ltb-false 8 len (or_parts (eqb len 0) (nat_lt 8 len) h).1))))

-- ---- characters and strings

quoted_words : (quote : ℕ) (bytes : List ℕ) → AreSmall bytes → IfOk (quoted_at quote bytes) (λ x. are_bytes x.0 ≡ true)
unfolding quoted_at
quoted_words quote bytes all =
    then_if (λ n. Unit {0}) (λ x. are_bytes x.0 ≡ true) (ok_or (body_len quote false bytes) faults.Literal)
    (λ len. ok_or (decoded 0 (take len bytes)) faults.Literal >>= λ meant. Ok (meant, len))
    (any_ok (ok_or (body_len quote false bytes) faults.Literal))
    (λ len u. then_if (λ m. are_bytes m ≡ true) (λ x. are_bytes x.0 ≡ true)
    (ok_or (decoded 0 (take len bytes)) faults.Literal) (λ meant. Ok (meant, len))
    (ok_if (λ m. are_bytes m ≡ true) (decoded 0 (take len bytes)) faults.Literal
    (decoded_bytes 0 (take len bytes) (front_small len bytes all)))
    (λ meant h. h))

one_byte_words : (bytes : List ℕ) → are_bytes bytes ≡ true → IfOk (one_byte bytes) (λ b. is_byte b ≡ true)
one_byte_words [] h = tt
one_byte_words (b ∷ []) h = (and_parts (is_byte b) true h).0
one_byte_words (b ∷ c ∷ rest) h = tt

character_words : (bytes : List ℕ) → AreSmall bytes → IsInWords (character_at bytes)
unfolding character_at
character_words bytes all =
    then_if (λ x. are_bytes x.0 ≡ true) (λ x. is_in_words x.0 ≡ true) (quoted_at 39 bytes)
    (λ body. one_byte body.0 >>= λ byte. Ok (Character byte, body.1 + 2)) (quoted_words 39 bytes all)
    (λ body h. then_if (λ b. is_byte b ≡ true) (λ x. is_in_words x.0 ≡ true) (one_byte body.0)
    (λ byte. Ok (Character byte, body.1 + 2)) (one_byte_words body.0 h) (λ b k. k))

string_words : (bytes : List ℕ) → AreSmall bytes → IsInWords (string_at bytes)
unfolding string_at
string_words bytes all =
    then_if (λ x. are_bytes x.0 ≡ true) (λ x. is_in_words x.0 ≡ true) (quoted_at 34 bytes)
    (λ body. Ok (Text body.0, body.1 + 2)) (quoted_words 34 bytes all) (λ body h. h)

-- ---- tokens

token_words : (bytes : List ℕ) → AreSmall bytes → IsInWords (token_at bytes)
unfolding token_at
token_words [] all = tt
token_words (c ∷ rest) all =
    cond_both (is_ascii_alphabetic c) (Ok (word_at (c ∷ rest))) _ IsInWords (λ h. word_words (c ∷ rest))
    (λ h. cond_both (is_ascii_digit c) (decimal_at (c ∷ rest)) _ IsInWords (λ h. decimal_words (c ∷ rest))
    (λ h. cond_both (eqb c 35) (hexadecimal_at rest) _ IsInWords (λ h. hexadecimal_words rest)
    (λ h. cond_both (eqb c 39) (character_at rest) _ IsInWords (λ h. character_words rest all.1)
    (λ h. cond_both (eqb c 34) (string_at rest) (sign_at (c ∷ rest)) IsInWords (λ h. string_words rest all.1)
    (λ h. signs_words (c ∷ rest))))))

-- what is read of bytes
pub found_words : (bytes : List ℕ) (kind : Kind) (len : ℕ) → AreSmall bytes → Ok (kind, len) ≡ token_at bytes
    → is_in_words kind ≡ true
found_words bytes kind len all found = subst IsInWords (sym found) (token_words bytes all)
