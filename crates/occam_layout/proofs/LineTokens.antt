-- The tokens that reading gives are those of the line, and no others.
use Rattle.std.proofs.Common.{◌≡◌, ℕ, zero, suc, ◌+◌, ◌<◌, ◌≤◌, true, false, eqb, List, [], ◌∷◌, ◌++◌, length, take}
use Rattle.std.proofs.Common.{drop, Option, Some, Result, Ok, Err, refl, sym, ap, subst, ◌∙◌, arith, inl, inr}
use Rattle.std.proofs.lemmas.Bool.{cases_Bool, eqb-true, and_parts}
use Rattle.std.proofs.lemmas.List.{take-append-drop, length-take-le, length-drop, drop_at}
use Rattle.occam_layout.specs.declared.fault.Fault.{Fault}
use Rattle.occam_layout.specs.Kind.{Kind}
use Rattle.occam_layout.specs.Reading.{◌>>=◌, token_at, Lexeme, begins_comment, tokens_at}
use Rattle.occam_layout.specs.Tokens.{is_lexeme, IsLongest, meaning, Tokens, Ends, Comment, Space, Token}
use Rattle.occam_layout.proofs.Scanning.{HasLen, token-len, tokens_at-space, BeginsWithNoSpace, is_blank-cons}
use Rattle.occam_layout.proofs.Scanning.{tokens_at-blank, and_others, tokens_at-token}
use Rattle.occam_layout.proofs.Loop.{bind_ok, ok_is}
use Rattle.occam_layout.proofs.Lexemes.{Finds, Agrees, unique, token-found}

-- ---- what is read is there

abbrev Read : ℕ → Type 0
Read k = (offset : ℕ) (bytes : List ℕ) (tokens : List Lexeme) → length bytes ≤ k
    → tokens_at 0 offset bytes ≡ Ok tokens → Tokens offset bytes tokens

none_read : (tokens : List Lexeme) (read : Result (List Lexeme) Fault) → read ≡ Ok [] → read ≡ Ok tokens → tokens ≡ []
none_read tokens read nothing e = cc

token_read : (k offset : ℕ) (body : List ℕ) (kind : Kind) (n : ℕ) (tokens : List Lexeme) → Read k
    → length body ≤ suc k → begins_comment body ≡ false → Finds body kind n → 0 < n
    → and_others offset body (kind, n) ≡ Ok tokens → Tokens offset body tokens
token_read k offset body kind n tokens others_read short counts found some e =
    let b = bind_ok (tokens_at 0 (offset + n) (drop n body))
    (λ others. Ok (record { kind = kind; start = offset; end = offset + n } ∷ others)) tokens e in
    let rest : Tokens (offset + n) (drop n body) b.0 =
    others_read (offset + n) (drop n body) b.0 (omega (arith, length-drop n body, some, short)) b.1 in
    let whole : take n body ++ drop n body ≡ body = take-append-drop n body in
    let len : length (take n body) ≡ n = length-take-le n body found.within in
    let counts' : begins_comment (take n body ++ drop n body) ≡ false = rw whole counts in
    let rest' : Tokens (offset + length (take n body)) (drop n body) b.0 = rw len rest in
    let one = Token offset (take n body) (drop n body) kind b.0 counts' found.longest found.means rest' in
    let P : List ℕ → ℕ → Type 0 = λ bytes m. Tokens offset bytes
    (record { kind = kind; start = offset; end = offset + m } ∷ b.0) in
    let two = subst (λ (m : ℕ). P (take n body ++ drop n body) m) len one in
    let three = subst (λ (bytes : List ℕ). P bytes n) whole two in
    subst (λ (all : List Lexeme). Tokens offset body all)
    (ok_is Fault (record { kind = kind; start = offset; end = offset + n } ∷ b.0) tokens b.2) three

body_read : (k offset c : ℕ) (rest : List ℕ) (first : Result (Kind × ℕ) Fault) (tokens : List Lexeme) → Read k
    → length (c ∷ rest) ≤ suc k → begins_comment (c ∷ rest) ≡ false → Agrees (c ∷ rest) first → HasLen first
    → (first >>= and_others offset (c ∷ rest)) ≡ Ok tokens → Tokens offset (c ∷ rest) tokens
body_read k offset c rest (Ok x) tokens others_read short counts found some e =
    token_read k offset (c ∷ rest) x.0 x.1 tokens others_read short counts found some e
body_read k offset c rest (Err fault) tokens others_read short counts found some e = absurd (cc e)

read_one : (k offset c : ℕ) (rest : List ℕ) (tokens : List Lexeme) → Read k → length (c ∷ rest) ≤ suc k
    → eqb c 32 ≡ false → tokens_at 0 offset (c ∷ rest) ≡ Ok tokens → Tokens offset (c ∷ rest) tokens
read_one k offset c rest tokens others_read short no_space e =
    elim (cases_Bool (begins_comment (c ∷ rest))) [
      | inl comment ↦ rw (none_read tokens _ (tokens_at-blank offset (c ∷ rest) no_space
          (is_blank-cons c rest ∙ comment)) e) (Comment offset (c ∷ rest) comment)
      | inr counts ↦ body_read k offset c rest (token_at (c ∷ rest)) tokens others_read short counts
          (token-found (c ∷ rest)) (token-len (c ∷ rest))
          (sym (tokens_at-token offset (c ∷ rest) no_space (is_blank-cons c rest ∙ counts)) ∙ e)
    ]

read_space : (k offset c : ℕ) (rest : List ℕ) (tokens : List Lexeme) → Read k → length (c ∷ rest) ≤ suc k
    → eqb c 32 ≡ true → tokens_at 0 offset (c ∷ rest) ≡ Ok tokens → Tokens offset (c ∷ rest) tokens
read_space k offset c rest tokens others_read short space e =
    let behind = others_read (offset + 1) rest tokens (omega (arith, short))
    (sym (tokens_at-space offset c rest space) ∙ e) in
    let one = Space offset rest tokens behind in
    subst (λ (d : ℕ). Tokens offset (d ∷ rest) tokens) (sym (eqb-true c 32 space)) one

reads : (k : ℕ) → Read k
unfolding tokens_at
reads k offset [] tokens short e = rw (none_read tokens (Ok []) refl e) (Ends offset)
reads zero offset (c ∷ rest) tokens short e = absurd (omega (arith, short))
reads (suc k) offset (c ∷ rest) tokens short e =
    elim (cases_Bool (eqb c 32)) [
      | inl space ↦ read_space k offset c rest tokens (reads k) short space e
      | inr
          no_space ↦ read_one k offset c rest tokens (reads k) short no_space e
    ]

pub tokens_found : (offset : ℕ) (bytes : List ℕ) (tokens : List Lexeme) → tokens_at 0 offset bytes ≡ Ok tokens
    → Tokens offset bytes tokens
tokens_found offset bytes tokens e = reads (length bytes) offset bytes tokens (omega arith) e

-- ---- what is there is read

no_space_in_comment : (bytes : List ℕ) → begins_comment bytes ≡ true → BeginsWithNoSpace bytes
no_space_in_comment [] comment = tt
no_space_in_comment (c ∷ rest) comment =
    let minus : 45 ≡ c = eqb-true 45 c (and_parts (eqb 45 c) _ comment).0 in
    subst (λ (d : ℕ). eqb d 32 ≡ false) minus refl

comment_only : (offset : ℕ) (bytes : List ℕ) → begins_comment bytes ≡ true → tokens_at 0 offset bytes ≡ Ok []
comment_only offset [] comment = absurd (cc comment)
comment_only offset (c ∷ rest) comment = tokens_at-blank offset (c ∷ rest) (no_space_in_comment (c ∷ rest) comment)
    (is_blank-cons c rest ∙ comment)

no_space_lexeme : (text : List ℕ) → is_lexeme (32 ∷ text) ≡ true → ⊥
unfolding is_lexeme
no_space_lexeme text lexeme = cc lexeme

nothing_lexeme : is_lexeme [] ≡ true → ⊥
unfolding is_lexeme
nothing_lexeme lexeme = cc lexeme

no_space_in_lexeme : (c : ℕ) (text : List ℕ) → is_lexeme (c ∷ text) ≡ true → eqb c 32 ≡ false
no_space_in_lexeme c text lexeme =
    elim (cases_Bool (eqb c 32)) [
      | inl space ↦ absurd (no_space_lexeme text
          (subst (λ (d : ℕ). is_lexeme (d ∷ text) ≡ true) (eqb-true c 32 space) lexeme))
      | inr other ↦ other
    ]

abbrev found_as : Kind → ℕ → Result (Kind × ℕ) Fault
found_as kind n = Ok (kind, n)

same_found : (k kind : Kind) (n m : ℕ) → k ≡ kind → n ≡ m → found_as k n ≡ found_as kind m
same_found k kind n m e f = cc

same_kind : (k kind : Kind) (o : Option Kind) → o ≡ Some k → o ≡ Some kind → k ≡ kind
same_kind k kind o e f = cc

agreed : (text rest : List ℕ) (kind : Kind) (read : Result (Kind × ℕ) Fault) → IsLongest text rest
    → meaning text ≡ Some kind → Agrees (text ++ rest) read → read ≡ found_as kind (length text)
agreed text rest kind (Ok x) longest means found =
    let n = x.1 in
    let body = text ++ rest in
    let same : take n body ≡ text = unique (take n body) text (drop n body) rest (take-append-drop n body)
    found.longest longest in
    let kinds : x.0 ≡ kind = same_kind x.0 kind (meaning text) (ap meaning (sym same) ∙ found.means) means in
    let lens : n ≡ length text = sym (length-take-le n body found.within) ∙ ap length same in
    same_found x.0 kind n (length text) kinds lens
agreed text rest kind (Err fault) longest means refused = absurd (refused.none text rest kind refl longest means)

token_only : (offset : ℕ) (text rest : List ℕ) (kind : Kind) (tokens : List Lexeme)
    → begins_comment (text ++ rest) ≡ false → IsLongest text rest → meaning text ≡ Some kind
    → tokens_at 0 (offset + length text) rest ≡ Ok tokens
    → tokens_at 0 offset (text ++ rest) ≡ Ok (record { kind = kind; start = offset; end = offset + length text } ∷
    tokens)
token_only offset [] rest kind tokens counts longest means others = absurd (nothing_lexeme longest.lexeme)
token_only offset (c ∷ text) rest kind tokens counts longest means others =
    let body = c ∷ (text ++ rest) in
    let first : token_at body ≡ found_as kind (suc (length text)) =
    agreed (c ∷ text) rest kind (token_at body) longest means (token-found body) in
    let behind : drop (suc (length text)) body ≡ rest = drop_at (c ∷ text) rest (length (c ∷ text)) refl in
    tokens_at-token offset body (no_space_in_lexeme c text longest.lexeme) (is_blank-cons c (text ++ rest) ∙ counts)
    ∙ ap (λ (r : Result (Kind × ℕ) Fault). r >>= and_others offset body) first
    ∙ ap (λ (bytes : List ℕ). tokens_at 0 (offset + suc (length text)) bytes >>= λ others. Ok
    (record { kind = kind; start = offset; end = offset + suc (length text) } ∷ others)) behind
    ∙ ap (λ (r : Result (List Lexeme) Fault). r >>= λ others. Ok
    (record { kind = kind; start = offset; end = offset + suc (length text) } ∷ others)) others

pub tokens_only : (offset : ℕ) (bytes : List ℕ) (tokens : List Lexeme) → Tokens offset bytes tokens
    → tokens_at 0 offset bytes ≡ Ok tokens
unfolding tokens_at
tokens_only offset _ _ (Ends _) = refl
tokens_only offset _ _ (Comment _ bytes comment) = comment_only offset bytes comment
tokens_only offset _ _ (Space _ rest tokens others) = tokens_only (offset + 1) rest tokens others
tokens_only offset _ _ (Token _ text rest kind tokens counts longest means others) =
    token_only offset text rest kind tokens counts longest means
    (tokens_only (offset + length text) rest tokens others)
