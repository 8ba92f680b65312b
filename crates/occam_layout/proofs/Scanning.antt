-- The tokens of a line, one after another.
use Rattle.std.proofs.Common.{◌≡◌, ℕ, zero, suc, ◌+◌, ◌<◌, Bool, true, false, cond, eqb, List, [], ◌∷◌, length, take}
use Rattle.std.proofs.Common.{drop, Option, Some, None, Result, Ok, Err, refl, sym, ap, subst, ◌∙◌, arith}
use Rattle.std.specs.Prelude.{◌||◌, ◌==◌, ◌^◌, pos, ok_or, nat_lt, pred}
use Rattle.std.specs.List.{prefix_len}
use Rattle.std.specs.Char.{is_ascii_alphabetic, is_ascii_digit, is_ascii_hexdigit}
use Rattle.std.proofs.lemmas.Bool.{cond_both}
use Rattle.std.proofs.lemmas.Bool.Decides.{nat_tests}
use Rattle.occam_layout.specs.declared.fault.Fault.{Fault}
use Rattle.std.specs.Int.{w32, cast_signed}
use Rattle.std.proofs.Math.Dec.{eqb-suc-zero}
use Rattle.occam_layout.specs.declared.fault.Fault.TheVariants as faults
use Rattle.occam_layout.specs.Kind.{Kind, Integer, sign_of}
use Rattle.occam_layout.specs.Reading.{◌>>=◌, is_name_byte, value, single_at, pair_or, word_at, decimal_at}
use Rattle.occam_layout.specs.Reading.{hexadecimal_at, quoted_at, one_byte, character_at, string_at, sign_at, token_at}
use Rattle.occam_layout.specs.Reading.{Lexeme, begins_comment, tokens_at, is_space, is_blank}

-- ---- a token takes a byte at least

abbrev pub HasLen : Result (Kind × ℕ) Fault → Type 0
HasLen (Ok x) = 0 < x.1
HasLen (Err fault) = Unit {0}

HasLen-bind : {A : Type 0} (read : Result A Fault) (f : A → Result (Kind × ℕ) Fault) → ((x : A) → HasLen (f x))
    → HasLen (read >>= f)
HasLen-bind (Ok x) f each = each x
HasLen-bind (Err fault) f each = tt

HasLen-cond : (b : Bool) (x y : Result (Kind × ℕ) Fault) → HasLen x → HasLen y → HasLen (cond b x y)
HasLen-cond true x y h k = h
HasLen-cond false x y h k = k

begins : (p : ℕ → Bool) (c : ℕ) (rest : List ℕ) → p c ≡ true → 0 < prefix_len p (c ∷ rest)
begins p c rest h = rw h (omega arith)

pub letter-name : (c : ℕ) → is_ascii_alphabetic c ≡ true → is_name_byte c ≡ true
letter-name c h = grind (arith, nat_tests)

word-len : (c : ℕ) (rest : List ℕ) → is_ascii_alphabetic c ≡ true → HasLen (Ok (word_at (c ∷ rest)))
unfolding word_at
word-len c rest h = begins is_name_byte c rest (letter-name c h)

decimal-len : (c : ℕ) (rest : List ℕ) → is_ascii_digit c ≡ true → HasLen (decimal_at (c ∷ rest))
unfolding decimal_at
decimal-len c rest h =
    let len = prefix_len is_ascii_digit (c ∷ rest) in
    let number = value 10 (take len (c ∷ rest)) in
    HasLen-cond (nat_lt number (2 ^ 31)) (Ok (Integer (pos number), len)) (Err faults.Literal)
    (begins is_ascii_digit c rest h) tt

hexadecimal-len : (rest : List ℕ) → HasLen (hexadecimal_at rest)
unfolding hexadecimal_at
hexadecimal-len rest =
    let len = prefix_len is_ascii_hexdigit rest in
    let some : 0 < len + 1 = omega arith in
    HasLen-cond (len == 0 || nat_lt 8 len) (Err faults.Literal)
    (Ok (Integer (cast_signed w32 (value 16 (take len rest))), len + 1)) tt some

character-len : (rest : List ℕ) → HasLen (character_at rest)
unfolding character_at
character-len rest = HasLen-bind (quoted_at 39 rest) _
    (λ (body : List ℕ × ℕ). HasLen-bind (one_byte body.0) _ (λ (byte : ℕ). omega arith))

string-len : (rest : List ℕ) → HasLen (string_at rest)
unfolding string_at
string-len rest = HasLen-bind (quoted_at 34 rest) _ (λ (body : List ℕ × ℕ). omega arith)

single-len : (c : ℕ) → HasLen (single_at c)
unfolding single_at
single-len c = HasLen-bind (ok_or (sign_of (c ∷ [])) faults.Character) (λ kind. Ok (kind, 1))
    (λ (k : Kind). omega arith)

pair-len : (pair : Option Kind) (single : Result (Kind × ℕ) Fault) → HasLen single → HasLen (pair_or pair single)
pair-len (Some kind) single some = omega arith
pair-len None single some = some

sign-len : (bytes : List ℕ) → HasLen (sign_at bytes)
unfolding sign_at
sign-len [] = tt
sign-len (c ∷ []) = single-len c
sign-len (c ∷ d ∷ rest) = pair-len (sign_of (c ∷ d ∷ [])) (single_at c) (single-len c)

pub token-len : (bytes : List ℕ) → HasLen (token_at bytes)
unfolding token_at
token-len [] = tt
token-len (c ∷ rest) =
    let signed = HasLen-cond (eqb c 34) (string_at rest) (sign_at (c ∷ rest)) (string-len rest) (sign-len (c ∷ rest)) in
    let quoted = HasLen-cond (eqb c 39) (character_at rest) _ (character-len rest) signed in
    let numbered = HasLen-cond (eqb c 35) (hexadecimal_at rest) _ (hexadecimal-len rest) quoted in
    let otherwise = cond_both (is_ascii_digit c) (decimal_at (c ∷ rest)) _ HasLen (λ h. decimal-len c rest h)
    (λ _. numbered) in
    cond_both (is_ascii_alphabetic c) (Ok (word_at (c ∷ rest))) _ HasLen (λ h. word-len c rest h) (λ _. otherwise)

-- ---- what is passed

pub tokens_at-passed : (n offset : ℕ) (bytes : List ℕ)
    → tokens_at n offset bytes ≡ tokens_at 0 (offset + n) (drop n bytes)
unfolding tokens_at
tokens_at-passed zero offset bytes = ap (λ (o : ℕ). tokens_at 0 o bytes) (omega arith)
tokens_at-passed (suc n) offset [] = refl
tokens_at-passed (suc n) offset (c ∷ rest) = tokens_at-passed n (offset + 1) rest ∙ ap
    (λ (o : ℕ). tokens_at 0 o (drop n rest)) (omega arith)

pub tokens_at-space : (offset c : ℕ) (rest : List ℕ) → eqb c 32 ≡ true
    → tokens_at 0 offset (c ∷ rest) ≡ tokens_at 0 (offset + 1) rest
unfolding tokens_at
tokens_at-space offset c rest h = rw h refl

past : (b : Bool) (offset c : ℕ) (rest : List ℕ) (n : ℕ) → eqb c 32 ≡ b
    → tokens_at 0 (offset + 1) rest ≡ tokens_at 0 (offset + 1 + n) (drop n rest)
    → tokens_at 0 offset (c ∷ rest) ≡ tokens_at 0 (offset + cond b (1 + n) 0) (drop (cond b (1 + n) 0) (c ∷ rest))
past true offset c rest n h e =
    let one : 1 + n ≡ suc n = omega arith in
    let at : offset + 1 + n ≡ offset + suc n = omega arith in
    rw (one) (tokens_at-space offset c rest h ∙ e ∙ ap (λ (o : ℕ). tokens_at 0 o (drop n rest)) at)
past false offset c rest n h e = ap (λ (o : ℕ). tokens_at 0 o (c ∷ rest)) (omega arith)

pub tokens_at-spaces : (offset : ℕ) (bytes : List ℕ)
    → tokens_at 0 offset bytes ≡ tokens_at 0 (offset + prefix_len is_space bytes)
    (drop (prefix_len is_space bytes) bytes)
unfolding tokens_at
tokens_at-spaces offset [] = refl
tokens_at-spaces offset (c ∷ rest) = past (eqb c 32) offset c rest (prefix_len is_space rest) refl
    (tokens_at-spaces (offset + 1) rest)

-- ---- what is after spaces

abbrev pub BeginsWithNoSpace : List ℕ → Type 0
BeginsWithNoSpace [] = Unit {0}
BeginsWithNoSpace (c ∷ rest) = eqb c 32 ≡ false

behind : (b : Bool) (c n : ℕ) (rest : List ℕ) → eqb c 32 ≡ b → BeginsWithNoSpace (drop n rest)
    → BeginsWithNoSpace (drop (cond b (1 + n) 0) (c ∷ rest))
behind true c n rest h others = let one : 1 + n ≡ suc n = omega arith in rw one others
behind false c n rest h others = h

pub BeginsWithNoSpace-behind : (bytes : List ℕ) → BeginsWithNoSpace (drop (prefix_len is_space bytes) bytes)
BeginsWithNoSpace-behind [] = tt
BeginsWithNoSpace-behind (c ∷ rest) = behind (eqb c 32) c (prefix_len is_space rest) rest refl
    (BeginsWithNoSpace-behind rest)

pub is_blank-cons : (c : ℕ) (rest : List ℕ) → is_blank (c ∷ rest) ≡ begins_comment (c ∷ rest)
is_blank-cons c rest = rw (eqb-suc-zero (length rest)) refl

pub tokens_at-blank : (offset : ℕ) (body : List ℕ) → BeginsWithNoSpace body → is_blank body ≡ true
    → tokens_at 0 offset body ≡ Ok []
unfolding tokens_at
tokens_at-blank offset [] no_space blank = refl
tokens_at-blank offset (c ∷ rest) no_space blank =
    let comment : begins_comment (c ∷ rest) ≡ true = sym (is_blank-cons c rest) ∙ blank in
    rw (no_space, comment) refl

-- the first token, and the others after it
abbrev pub and_others : ℕ → List ℕ → (Kind × ℕ) → Result (List Lexeme) Fault
and_others offset body first = tokens_at 0 (offset + first.1) (drop first.1 body) >>= λ others. Ok
    (record { kind = first.0; start = offset; end = offset + first.1 } ∷ others)

same_others : (offset c : ℕ) (rest : List ℕ) (first : Result (Kind × ℕ) Fault) → HasLen first
    → (first >>= λ x. tokens_at (pred x.1) (offset + 1) rest >>= λ others. Ok
    (record { kind = x.0; start = offset; end = offset + x.1 } ∷ others)) ≡ (first >>= and_others offset (c ∷ rest))
same_others offset c rest (Ok (kind, zero)) some = absurd (omega (arith, some))
same_others offset c rest (Ok (kind, suc n)) some =
    let e : tokens_at n (offset + 1) rest ≡ tokens_at 0 (offset + suc n) (drop n rest) =
    tokens_at-passed n (offset + 1) rest ∙ ap (λ (o : ℕ). tokens_at 0 o (drop n rest)) (omega arith) in
    ap (λ (r : Result (List Lexeme) Fault). r >>= λ others. Ok
    (record { kind = kind; start = offset; end = offset + suc n } ∷ others)) e
same_others offset c rest (Err fault) some = refl

pub tokens_at-token : (offset : ℕ) (body : List ℕ) → BeginsWithNoSpace body → is_blank body ≡ false
    → tokens_at 0 offset body ≡ (token_at body >>= and_others offset body)
unfolding tokens_at
tokens_at-token offset [] no_space counts = absurd (cc counts)
tokens_at-token offset (c ∷ rest) no_space counts =
    let comment : begins_comment (c ∷ rest) ≡ false = sym (is_blank-cons c rest) ∙ counts in
    rw (no_space, comment) (same_others offset c rest (token_at (c ∷ rest)) (token-len (c ∷ rest)))

-- ---- a step of the loop: spaces, and what is after them

pub is_over : (offset gap : ℕ) (line body : List ℕ) → gap ≡ prefix_len is_space line → body ≡ drop gap line
    → is_blank body ≡ true → tokens_at 0 offset line ≡ Ok []
is_over offset gap line body is_gap is_body blank =
    let behind : body ≡ drop (prefix_len is_space line) line = is_body ∙ ap (λ (n : ℕ). drop n line) is_gap in
    tokens_at-spaces offset line ∙ tokens_at-blank _ _ (BeginsWithNoSpace-behind line) (rw (← behind) blank)

pub goes_on : (offset gap : ℕ) (line body : List ℕ) → gap ≡ prefix_len is_space line → body ≡ drop gap line
    → is_blank body ≡ false → tokens_at 0 offset line ≡ (token_at body >>= and_others (offset + gap) body)
goes_on offset gap line body is_gap is_body counts =
    let behind : body ≡ drop (prefix_len is_space line) line = is_body ∙ ap (λ (n : ℕ). drop n line) is_gap in
    rw (is_gap, behind) (tokens_at-spaces offset line ∙ tokens_at-token _ _ (BeginsWithNoSpace-behind line)
    (rw (← behind) counts))

pub takes_some : (body : List ℕ) (kind : Kind) (len : ℕ) → Ok (kind, len) ≡ token_at body → 0 < len
takes_some body kind len found = subst HasLen (sym found) (token-len body)

pub is_refused : (offset gap : ℕ) (line body : List ℕ) (fault : Fault) → gap ≡ prefix_len is_space line
    → body ≡ drop gap line → is_blank body ≡ false → Err fault ≡ token_at body → tokens_at 0 offset line ≡ Err fault
is_refused offset gap line body fault is_gap is_body counts found =
    goes_on offset gap line body is_gap is_body counts ∙ ap
    (λ (r : Result (Kind × ℕ) Fault). r >>= and_others (offset + gap) body) (sym found)

pub is_found : (offset gap len : ℕ) (line body after : List ℕ) (kind : Kind) → gap ≡ prefix_len is_space line
    → body ≡ drop gap line → is_blank body ≡ false → Ok (kind, len) ≡ token_at body → after ≡ drop len body
    → tokens_at 0 offset line ≡ (tokens_at 0 (offset + gap + len) after >>= λ others. Ok
    (record { kind = kind; start = offset + gap; end = offset + gap + len } ∷ others))
is_found offset gap len line body after kind is_gap is_body counts found is_after =
    goes_on offset gap line body is_gap is_body counts ∙ ap
    (λ (r : Result (Kind × ℕ) Fault). r >>= and_others (offset + gap) body) (sym found) ∙ rw is_after refl
