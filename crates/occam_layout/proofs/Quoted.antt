-- Reading what is between quotes, a byte or a character at a time.
use Rattle.std.proofs.Common.{◌≡◌, ℕ, zero, suc, ◌+◌, ◌-◌, ◌<◌, ◌≤◌, Bool, true, false, eqb, List, [], ◌∷◌, length}
use Rattle.std.proofs.Common.{get_or, drop, Option, Some, None, refl, sym, ap, ◌∙◌, arith}
use Rattle.std.specs.Prelude.{option_map, option_and_then, is_some, IsSome, unwrap_or}
use Rattle.std.proofs.lemmas.List.{at_drop_more, at_drop_all}
use Rattle.std.proofs.lemmas.Bool.{eq-eqb, ne_eqb}
use Rattle.occam_layout.specs.Characters.{character_at, decoded, body_len}

-- ---- the quote that ends a literal

-- the state before the byte at i: what was passed, and what is still found
abbrev pub Seeks : (quote : ℕ) (starred : Bool) (i : ℕ) (bytes : List ℕ) (total : Option ℕ) → Type 0
Seeks quote starred i bytes total = option_map (λ n. i + n) (body_len quote starred (drop i bytes)) ≡ total

later : (i : ℕ) (found : Option ℕ) → option_map (λ n. (i + 1) + n) found ≡ option_map (λ n. i + n)
    (option_map (λ n. n + 1) found)
later i None = refl
later i (Some n) = ap Some (omega arith)

pub found_here : (quote i : ℕ) (bytes : List ℕ) (total : Option ℕ) → i < length bytes → get_or bytes i 0 ≡ quote
    → Seeks quote false i bytes total → Some i ≡ total
unfolding body_len
found_here quote i bytes total lt is_quote seeks =
    let here : body_len quote false (drop i bytes) ≡ Some 0 =
    at_drop_more (body_len quote false) bytes i 0 lt ∙ rw (eq-eqb _ _ is_quote) refl in
    ap Some (omega arith) ∙ ap (option_map (λ n. i + n)) (sym here) ∙ seeks

pub passed_star : (quote : ℕ) (now next : Bool) (i : ℕ) (bytes : List ℕ) (total : Option ℕ) → i < length bytes
    → now ≡ true → next ≡ false → Seeks quote now i bytes total → Seeks quote next (i + 1) bytes total
unfolding body_len
passed_star quote now next i bytes total lt is_starred is_over seeks =
    let so_far : Seeks quote true i bytes total = rw (← is_starred) seeks in
    rw is_over (later i (body_len quote false (drop (i + 1) bytes)) ∙ ap (option_map (λ n. i + n))
    (sym (at_drop_more (body_len quote true) bytes i 0 lt)) ∙ so_far)

pub passed_byte : (quote : ℕ) (now next : Bool) (i : ℕ) (bytes : List ℕ) (total : Option ℕ) → i < length bytes
    → now ≡ false → (get_or bytes i 0 ≡ quote → ⊥) → next ≡ eqb (get_or bytes i 0) 42 → Seeks quote now i bytes total
    → Seeks quote next (i + 1) bytes total
unfolding body_len
passed_byte quote now next i bytes total lt is_plain other is_next seeks =
    let so_far : Seeks quote false i bytes total = rw (← is_plain) seeks in
    let not_here : eqb (get_or bytes i 0) quote ≡ false = ne_eqb _ _ other in
    let on : body_len quote false (drop i bytes) ≡ option_map (λ n. n + 1)
    (body_len quote (eqb (get_or bytes i 0) 42) (drop (i + 1) bytes)) =
    at_drop_more (body_len quote false) bytes i 0 lt ∙ rw not_here refl in
    rw is_next (later i (body_len quote (eqb (get_or bytes i 0) 42) (drop (i + 1) bytes)) ∙ ap
    (option_map (λ n. i + n)) (sym on) ∙ so_far)

pub not_found : (quote : ℕ) (starred : Bool) (i : ℕ) (bytes : List ℕ) (total : Option ℕ) → length bytes ≤ i
    → Seeks quote starred i bytes total → None ≡ total
unfolding body_len
not_found quote starred i bytes total le seeks =
    ap (option_map (λ n. i + n)) (sym (at_drop_all (body_len quote starred) bytes i le)) ∙ seeks

-- ---- characters

pub decoded-passed : (n : ℕ) (bytes : List ℕ) → decoded n bytes ≡ decoded 0 (drop n bytes)
unfolding decoded
decoded-passed zero bytes = refl
decoded-passed (suc n) [] = refl
decoded-passed (suc n) (c ∷ rest) = decoded-passed n rest

and_others : (x : Option (ℕ × ℕ)) (rest : List ℕ)
    → option_and_then (λ y. option_map (λ bytes. y.0 ∷ bytes) (decoded y.1 rest)) x ≡ option_and_then
    (λ y. option_map (λ bytes. y.0 ∷ bytes) (decoded 0 (drop y.1 rest))) x
and_others None rest = refl
and_others (Some y) rest = ap (option_map (λ bytes. y.0 ∷ bytes)) (decoded-passed y.1 rest)

-- a character, and then the others
pub decoded-cons : (c : ℕ) (rest : List ℕ) → decoded 0 (c ∷ rest) ≡ option_and_then
    (λ x. option_map (λ bytes. x.0 ∷ bytes) (decoded 0 (drop x.1 rest))) (character_at (c ∷ rest))
unfolding decoded
decoded-cons c rest = and_others (character_at (c ∷ rest)) rest

-- a character that was read, and how many bytes it takes
pub record Reads (bytes : List ℕ) (byte taken : ℕ) : Type 0 where
  pub some : 0 < taken
  pub found : Some (byte, taken - 1) ≡ character_at bytes

pub decoded-first : (bytes : List ℕ) (byte taken : ℕ) → Reads bytes byte taken
    → decoded 0 bytes ≡ option_map (λ others. byte ∷ others) (decoded 0 (drop taken bytes))
unfolding character_at
decoded-first [] byte taken reads = absurd (cc reads.found)
decoded-first (c ∷ rest) byte zero reads = absurd (omega (arith, reads.some))
decoded-first (c ∷ rest) byte (suc taken) reads =
    let less : suc taken - 1 ≡ taken = omega arith in
    decoded-cons c rest ∙ rw (← reads.found, less) refl

pub decoded-none : (bytes : List ℕ) → 0 < length bytes → None ≡ character_at bytes → decoded 0 bytes ≡ None
decoded-none [] some none = absurd (omega (arith, some))
decoded-none (c ∷ rest) some none = decoded-cons c rest ∙ rw (← none) refl

is_some-map : {A B : Type 0} (f : A → B) (o : Option A) → is_some (option_map f o) ≡ is_some o
is_some-map f None = refl
is_some-map f (Some x) = refl

-- what is left after a character is well formed exactly where all is
pub is_some-rest : (bytes rest : List ℕ) (byte taken : ℕ) → Reads bytes byte taken → rest ≡ drop taken bytes
    → is_some (decoded 0 rest) ≡ is_some (decoded 0 bytes)
is_some-rest bytes rest byte taken reads is_rest =
    rw (is_rest, decoded-first bytes byte taken reads)
    (sym (is_some-map (λ others. byte ∷ others) (decoded 0 (drop taken bytes))))

pub is_some-empty : (bytes : List ℕ) → length bytes ≡ 0 → is_some (decoded 0 bytes) ≡ true
unfolding decoded
is_some-empty [] empty = refl
is_some-empty (c ∷ rest) empty = absurd (omega (arith, empty))

ill_formed : (o : Option (List ℕ)) → is_some o ≡ is_some {T = List ℕ} None → None ≡ o
ill_formed None h = refl
ill_formed (Some bytes) h = absurd (cc h)

pub is_ill_formed : (bytes rest : List ℕ) → 0 < length rest → None ≡ character_at rest
    → is_some (decoded 0 rest) ≡ is_some (decoded 0 bytes) → None ≡ decoded 0 bytes
is_ill_formed bytes rest some none same = ill_formed (decoded 0 bytes)
    (sym same ∙ ap is_some (decoded-none rest some none))

-- ---- the bytes of a string

abbrev shown : Option (List ℕ) → List ℕ
shown o = unwrap_or o []

shown-map : (byte : ℕ) (o : Option (List ℕ)) → IsSome (option_map (λ others. byte ∷ others) o)
    → shown (option_map (λ others. byte ∷ others) o) ≡ byte ∷ shown o
shown-map byte None h = absurd (cc h)
shown-map byte (Some others) h = refl

pub shown-first : (bytes rest : List ℕ) (byte taken : ℕ) → Reads bytes byte taken → rest ≡ drop taken bytes
    → IsSome (decoded 0 bytes) → shown (decoded 0 bytes) ≡ byte ∷ shown (decoded 0 rest)
shown-first bytes rest byte taken reads is_rest well_formed =
    let first = decoded-first bytes byte taken reads in
    rw (is_rest, first) (shown-map byte (decoded 0 (drop taken bytes)) (rw first at well_formed))

pub shown-none : (bytes : List ℕ) → None ≡ character_at bytes → IsSome (decoded 0 bytes) → shown (decoded 0 bytes) ≡ []
unfolding decoded
shown-none [] none well_formed = refl
shown-none (c ∷ rest) none well_formed = let e : is_some (decoded 0 (c ∷ rest)) ≡ is_some {T = List ℕ} None =
    ap is_some (decoded-none (c ∷ rest) (omega arith) none) in absurd (cc (e, well_formed))

shown-some : (byte : ℕ) (o : Option (List ℕ)) → IsSome (option_map (λ others. byte ∷ others) o)
    → shown (option_map (λ others. byte ∷ others) o) ≡ [] → ⊥
shown-some byte None h e = cc h
shown-some byte (Some others) h e = cc e

at_first : (x : Option (ℕ × ℕ)) (rest : List ℕ)
    → IsSome (option_and_then (λ y. option_map (λ bytes. y.0 ∷ bytes) (decoded 0 (drop y.1 rest))) x)
    → shown (option_and_then (λ y. option_map (λ bytes. y.0 ∷ bytes) (decoded 0 (drop y.1 rest))) x) ≡ [] → ⊥
at_first None rest h e = cc h
at_first (Some y) rest h e = shown-some y.0 (decoded 0 (drop y.1 rest)) h e

-- a string has no bytes exactly where nothing is spelled
pub nothing_spelled : (bytes : List ℕ) → IsSome (decoded 0 bytes) → shown (decoded 0 bytes) ≡ [] → length bytes ≡ 0
nothing_spelled [] well_formed e = refl
nothing_spelled (c ∷ rest) well_formed e = let first =
    decoded-cons c rest in absurd (at_first (character_at (c ∷ rest)) rest (rw first at well_formed) (rw first at e))

pub nothing_shown : (bytes : List ℕ) → length bytes ≡ 0 → shown (decoded 0 bytes) ≡ []
unfolding decoded
nothing_shown [] empty = refl
nothing_shown (c ∷ rest) empty = absurd (omega (arith, empty))

-- a string has no more bytes than its spelling
one_more : (byte : ℕ) (o : Option (List ℕ)) (n : ℕ) → length (unwrap_or o []) ≤ n
    → length (unwrap_or (option_map (λ bytes. byte ∷ bytes) o) []) ≤ suc n
one_more byte None n h = omega arith
one_more byte (Some bytes) n h = omega arith

after_one : (rest : List ℕ) (o : Option (ℕ × ℕ))
    → ((passed : ℕ) → length (unwrap_or (decoded passed rest) []) ≤ length rest)
    → length (unwrap_or (option_and_then (λ x. option_map (λ bytes. x.0 ∷ bytes) (decoded x.1 rest)) o) [])
    ≤ suc (length rest)
after_one rest None h = omega arith
after_one rest (Some x) h = one_more x.0 (decoded x.1 rest) (length rest) (h x.1)

pub no_longer : (bytes : List ℕ) (passed : ℕ) → length (unwrap_or (decoded passed bytes) []) ≤ length bytes
unfolding decoded
no_longer [] passed = omega arith
no_longer (c ∷ rest) (suc passed) = let below = no_longer rest passed in omega arith
no_longer (c ∷ rest) zero = after_one rest (character_at (c ∷ rest)) (no_longer rest)
