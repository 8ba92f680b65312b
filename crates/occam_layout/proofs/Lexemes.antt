-- Reading a token gives the longest that begins there, and what it denotes; and the other way round.
use Rattle.std.proofs.Common.{◌≡◌, ℕ, suc, ◌+◌, ◌-◌, ◌^◌, ◌<◌, ◌≤◌, Bool, true, false, cond, eqb, List, [], ◌∷◌, ◌++◌}
use Rattle.std.proofs.Common.{length, take, drop, Option, Some, None, Result, Ok, Err, refl, sym, ap, subst, ◌∙◌, arith}
use Rattle.std.proofs.Common.{inl, inr}
use Rattle.std.specs.Prelude.{pos, ◌||◌, ◌==◌, nat_lt, bytes_eq, ok_or, unwrap_or, option_map, option_and_then}
use Rattle.std.specs.List.{prefix_len, list_all, list_any}
use Rattle.std.specs.Char.{is_ascii_alphabetic, is_ascii_digit, is_ascii_hexdigit}
use Rattle.std.specs.Int.{w32, cast_signed}
use Rattle.std.proofs.lemmas.Bool.{and_parts, cond_both, cond-true, cond-false, eq-eqb, ne_eqb, cases_order, both_ways}
use Rattle.std.proofs.lemmas.Bool.{ltb-true, or_from}
use Rattle.std.proofs.lemmas.List.{length-append, length-take-le, take-append-drop, take-take}
use Rattle.std.proofs.lemmas.List.Folds.{length-prefix_len}
use Rattle.std.proofs.Math.Bool.{and-false}
use Rattle.occam_layout.specs.declared.fault.Fault.{Fault}
use Rattle.occam_layout.specs.declared.fault.Fault.TheVariants as faults
use Rattle.occam_layout.specs.Characters.{decoded, body_len}
use Rattle.occam_layout.specs.Kind.{Kind, Mark, Name, Integer, Character, Text, keywords, keyword_among, is_sign, signs}
use Rattle.occam_layout.specs.Reading.{◌>>=◌, is_name_byte, value, word_at, decimal_at, hexadecimal_at, quoted_at}
use Rattle.occam_layout.specs.Reading.{one_byte, character_at, string_at, single_at, pair_or, sign_at, token_at}
use Rattle.occam_layout.specs.Tokens.{is_last, is_lexeme, IsLongest, in_int, bits_of, character_of, body_of, meaning}
use Rattle.occam_layout.proofs.Scanning.{letter-name}
use Rattle.occam_layout.proofs.Spelling.{bytes_eq-longer}

-- ---- runs of bytes

within' : (b : Bool) (c : ℕ) (rest : List ℕ) (n : ℕ) → n ≤ length rest → cond b (1 + n) 0 ≤ length (c ∷ rest)
within' true c rest n le = omega (arith, le)
within' false c rest n le = omega arith

pub run_within : (is : ℕ → Bool) (bytes : List ℕ) → prefix_len is bytes ≤ length bytes
run_within is [] = omega arith
run_within is (c ∷ rest) = within' (is c) c rest (prefix_len is rest) (run_within is rest)

all' : (b : Bool) (is : ℕ → Bool) (c n : ℕ) (rest : List ℕ) → is c ≡ b → list_all is (take n rest) ≡ true
    → list_all is (take (cond b (1 + n) 0) (c ∷ rest)) ≡ true
all' true is c n rest h all = let one : 1 + n ≡ suc n = omega arith in rw (one, h) all
all' false is c n rest h all = refl

run_all : (is : ℕ → Bool) (bytes : List ℕ) → list_all is (take (prefix_len is bytes) bytes) ≡ true
run_all is [] = refl
run_all is (c ∷ rest) = all' (is c) is c (prefix_len is rest) rest refl (run_all is rest)

ends' : (b : Bool) (is : ℕ → Bool) (c n : ℕ) (rest : List ℕ) (d : ℕ) (others : List ℕ) → is c ≡ b
    → (drop n rest ≡ d ∷ others → is d ≡ false) → drop (cond b (1 + n) 0) (c ∷ rest) ≡ d ∷ others → is d ≡ false
ends' true is c n rest d others h later e = let one : 1 + n ≡ suc n = omega arith in later (rw one at e)
ends' false is c n rest d others h later e = let same : c ≡ d = cc in rw (← same) h

run_ends : (is : ℕ → Bool) (bytes : List ℕ) (d : ℕ) (others : List ℕ) → drop (prefix_len is bytes) bytes ≡ d ∷ others
    → is d ≡ false
run_ends is [] d others e = absurd (cc e)
run_ends is (c ∷ rest) d others e = ends' (is c) is c (prefix_len is rest) rest d others refl
    (run_ends is rest d others) e

spoiled : (is : ℕ → Bool) (front : List ℕ) (d : ℕ) (others : List ℕ) → is d ≡ false
    → list_all is (front ++ d ∷ others) ≡ false
spoiled is [] d others h = rw h refl
spoiled is (c ∷ front) d others h = rw (spoiled is front d others h) (and-false (is c))

run_longest : (is : ℕ → Bool) (bytes more others : List ℕ) → 0 < length more
    → drop (prefix_len is bytes) bytes ≡ more ++ others
    → list_all is (take (prefix_len is bytes) bytes ++ more) ≡ false
run_longest is bytes [] others some e = absurd (omega (arith, some))
run_longest is bytes (d ∷ more) others some e =
    spoiled is (take (prefix_len is bytes) bytes) d more (run_ends is bytes d (more ++ others) e)

run_first : (is : ℕ → Bool) (c : ℕ) (rest : List ℕ) → is c ≡ true → prefix_len is (c ∷ rest) ≡ suc (prefix_len is rest)
run_first is c rest h = rw h (omega arith)

-- ---- tokens by their first byte

-- a token that goes on as long as its bytes are of a kind
abbrev pub IsRun : (ℕ → Bool) → ℕ → Type 0
IsRun is c = (rest : List ℕ) → is_lexeme (c ∷ rest) ≡ list_all is rest

-- ---- the longest token is one

pub cons_same : (q p : ℕ) (b a : List ℕ) → p ≡ q → b ≡ a → q ∷ b ≡ p ∷ a
cons_same q p b a heads tails = cc

split : (a b x y : List ℕ) → a ++ x ≡ b ++ y → length a < length b → (more : List ℕ) × (b ≡ a ++ more) × (x ≡ more ++ y)
split [] b x y e lt = (b, refl, e)
split (p ∷ a) [] x y e lt = absurd (omega (arith, lt))
split (p ∷ a) (q ∷ b) x y e lt =
    let heads : p ≡ q = cc in
    let tails : a ++ x ≡ b ++ y = cc in
    let s = split a b x y tails (omega (arith, lt)) in
    (s.0, cons_same q p b (a ++ s.0) heads s.1, s.2)

same_front : (a b x y : List ℕ) → a ++ x ≡ b ++ y → length a ≡ length b → a ≡ b
same_front [] [] x y e same = refl
same_front [] (q ∷ b) x y e same = absurd (omega (arith, same))
same_front (p ∷ a) [] x y e same = absurd (omega (arith, same))
same_front (p ∷ a) (q ∷ b) x y e same =
    let heads : p ≡ q = cc in
    let tails : a ++ x ≡ b ++ y = cc in
    cons_same p q a b (sym heads) (same_front a b x y tails (omega (arith, same)))

not_longer : (a b x y : List ℕ) → a ++ x ≡ b ++ y → IsLongest a x → IsLongest b y → length a < length b → ⊥
not_longer a b x y e la lb lt =
    let s = split a b x y e lt in
    let some : 0 < length s.0 = omega (arith, ap length s.1, length-append a s.0) in
    let no : is_lexeme b ≡ false = rw s.1 (la.longest s.0 y some s.2) in
    both_ways (is_lexeme b) no lb.lexeme

pub unique : (a b x y : List ℕ) → a ++ x ≡ b ++ y → IsLongest a x → IsLongest b y → a ≡ b
unique a b x y e la lb =
    elim (cases_order (length a) (length b)) [
      | inl same ↦ same_front a b x y e same
      | inr differ ↦ elim differ [
        | inl lt ↦ absurd (not_longer a b x y e la lb lt)
        | inr gt ↦ absurd
            (not_longer b a y x (sym e) lb la gt)
      ]
    ]

-- what is found is the longest token, with its meaning
pub record Finds (bytes : List ℕ) (kind : Kind) (n : ℕ) : Type 0 where
  pub within : n ≤ length bytes
  pub longest : IsLongest (take n bytes) (drop n bytes)
  pub means : meaning (take n bytes) ≡ Some kind

-- no token with a meaning begins there
pub record IsRefused (bytes : List ℕ) : Type 0 where
  pub none : (text rest : List ℕ) (kind : Kind) → bytes ≡ text ++ rest → IsLongest text rest
      → meaning text ≡ Some kind → ⊥

abbrev pub Agrees : List ℕ → Result (Kind × ℕ) Fault → Type 0
Agrees bytes (Ok x) = Finds bytes x.0 x.1
Agrees bytes (Err fault) = IsRefused bytes

some_is_not : (bytes : List ℕ) (kind : Kind) → meaning bytes ≡ None → meaning bytes ≡ Some kind → ⊥
some_is_not bytes kind none some = cc

refused_by : (bytes : List ℕ) (n : ℕ) → IsLongest (take n bytes) (drop n bytes) → meaning (take n bytes) ≡ None
    → IsRefused bytes
refused_by bytes n longest no_meaning = record {
  none = λ text rest kind e l m.
      (let same : take n bytes ≡ text = unique (take n bytes) text (drop n bytes) rest (take-append-drop n bytes ∙ e)
      longest l in
      some_is_not text kind (ap meaning (sym same) ∙ no_meaning) m);
}

no_lexeme : (bytes : List ℕ) → ((text rest : List ℕ) → bytes ≡ text ++ rest → is_lexeme text ≡ true → ⊥)
    → IsRefused bytes
no_lexeme bytes never = record { none = λ text rest kind e l m. never text rest e l.lexeme }

longest_run : (is : ℕ → Bool) (c : ℕ) (rest : List ℕ) → IsRun is c
    → IsLongest (c ∷ take (prefix_len is rest) rest) (drop (prefix_len is rest) rest)
longest_run is c rest run = record {
  lexeme = run (take (prefix_len is rest) rest) ∙ run_all is rest;
  longest = λ more others some e. run (take (prefix_len is rest) rest ++ more) ∙ run_longest is rest more others some e;
}

found_run : (is : ℕ → Bool) (c : ℕ) (rest : List ℕ) (kind : Kind) → IsRun is c
    → meaning (c ∷ take (prefix_len is rest) rest) ≡ Some kind → Finds (c ∷ rest) kind (suc (prefix_len is rest))
found_run is c rest kind run means = record {
  within = omega (arith, run_within is rest);
  longest =
      longest_run is c rest run;
  means = means;
}

-- ---- words

lexeme-word : (c : ℕ) → is_ascii_alphabetic c ≡ true → IsRun is_name_byte c
unfolding is_lexeme
lexeme-word c h rest = rw h refl

meaning-word : (c : ℕ) (rest : List ℕ) → is_ascii_alphabetic c ≡ true
    → meaning (c ∷ rest) ≡ Some (unwrap_or (keyword_among keywords (c ∷ rest)) (Name (c ∷ rest)))
unfolding meaning
meaning-word c rest h = cond-true (is_ascii_alphabetic c) _ _ h

abbrev word : List ℕ → Kind
word text = unwrap_or (keyword_among keywords text) (Name text)

pub found-word : (c : ℕ) (rest : List ℕ) → is_ascii_alphabetic c ≡ true → Agrees (c ∷ rest) (Ok (word_at (c ∷ rest)))
unfolding word_at
found-word c rest h =
    let P : ℕ → Type 0 = λ n. Finds (c ∷ rest) (word (take n (c ∷ rest))) n in
    subst P (sym (run_first is_name_byte c rest (letter-name c h)))
    (found_run is_name_byte c rest (word (c ∷ take (prefix_len is_name_byte rest) rest)) (lexeme-word c h)
    (meaning-word c (take (prefix_len is_name_byte rest) rest) h))

-- ---- decimal numbers

pub record IsDecimal (c : ℕ) : Type 0 where
  pub no_letter : is_ascii_alphabetic c ≡ false
  pub digit : is_ascii_digit c ≡ true

lexeme-decimal : (c : ℕ) → IsDecimal c → IsRun is_ascii_digit c
unfolding is_lexeme
lexeme-decimal c h rest = rw (h.no_letter, h.digit) refl

meaning-decimal : (c : ℕ) (rest : List ℕ) → IsDecimal c → meaning (c ∷ rest) ≡ in_int (value 10 (c ∷ rest))
unfolding meaning
meaning-decimal c rest h = cond-false (is_ascii_alphabetic c) _ _ h.no_letter ∙ cond-true (is_ascii_digit c) _ _ h.digit

abbrev decimal_of : ℕ → List ℕ → Result (Kind × ℕ) Fault
decimal_of n bytes = cond (nat_lt (value 10 (take n bytes)) (2 ^ 31))
    (Ok (Integer (pos (value 10 (take n bytes))), n)) (Err faults.Literal)

pub found-decimal : (c : ℕ) (rest : List ℕ) → IsDecimal c → Agrees (c ∷ rest) (decimal_at (c ∷ rest))
unfolding decimal_at
found-decimal c rest h =
    let P : ℕ → Type 0 = λ n. Agrees (c ∷ rest) (decimal_of n (c ∷ rest)) in
    let m = prefix_len is_ascii_digit rest in
    let number = value 10 (c ∷ take m rest) in
    subst P (sym (run_first is_ascii_digit c rest h.digit))
    (cond_both (nat_lt number (2 ^ 31)) (Ok (Integer (pos number), suc m)) (Err faults.Literal) (Agrees (c ∷ rest))
    (λ small. found_run is_ascii_digit c rest (Integer (pos number)) (lexeme-decimal c h)
    (meaning-decimal c (take m rest) h ∙ cond-true (nat_lt number (2 ^ 31)) _ _ small))
    (λ large. refused_by (c ∷ rest) (suc m) (longest_run is_ascii_digit c rest (lexeme-decimal c h))
    (meaning-decimal c (take m rest) h ∙ cond-false (nat_lt number (2 ^ 31)) _ _ large)))

-- ---- hexadecimal numbers

pub record IsHash (c : ℕ) : Type 0 where
  pub no_letter : is_ascii_alphabetic c ≡ false
  pub no_digit : is_ascii_digit c ≡ false
  pub hash : eqb c 35 ≡ true

lexeme-hexadecimal : (c : ℕ) → IsHash c → IsRun is_ascii_hexdigit c
unfolding is_lexeme
lexeme-hexadecimal c h rest = rw (h.no_letter, h.no_digit, h.hash) refl

meaning-hexadecimal : (c : ℕ) (rest : List ℕ) → IsHash c → meaning (c ∷ rest) ≡ bits_of rest
unfolding meaning
meaning-hexadecimal c rest h = cond-false (is_ascii_alphabetic c) _ _ h.no_letter ∙ cond-false (is_ascii_digit c) _ _
    h.no_digit ∙ cond-true (eqb c 35) _ _ h.hash

pub found-hexadecimal : (c : ℕ) (rest : List ℕ) → IsHash c → Agrees (c ∷ rest) (hexadecimal_at rest)
unfolding hexadecimal_at
found-hexadecimal c rest h =
    let m = prefix_len is_ascii_hexdigit rest in
    let kind = Integer (cast_signed w32 (value 16 (take m rest))) in
    let same : suc m ≡ m + 1 = omega arith in
    let P : ℕ → Type 0 = λ n. Finds (c ∷ rest) kind n in
    let bits : (m == 0 || nat_lt 8 m) ≡ false → bits_of (take m rest) ≡ Some kind =
    λ good. rw (length-prefix_len is_ascii_hexdigit rest) (cond-false (m == 0 || nat_lt 8 m) _ _ good) in
    let no_bits : (m == 0 || nat_lt 8 m) ≡ true → bits_of (take m rest) ≡ None =
    λ bad. rw (length-prefix_len is_ascii_hexdigit rest) (cond-true (m == 0 || nat_lt 8 m) _ _ bad) in
    cond_both (m == 0 || nat_lt 8 m) (Err faults.Literal) (Ok (kind, m + 1)) (Agrees (c ∷ rest))
    (λ bad. refused_by (c ∷ rest) (suc m) (longest_run is_ascii_hexdigit c rest (lexeme-hexadecimal c h))
    (meaning-hexadecimal c (take m rest) h ∙ no_bits bad))
    (λ good. subst P same (found_run is_ascii_hexdigit c rest kind (lexeme-hexadecimal c h)
    (meaning-hexadecimal c (take m rest) h ∙ bits good)))

-- ---- what is between quotes

one_less : (o : Option ℕ) (n : ℕ) → option_map (λ k. k + 1) o ≡ Some n → (k : ℕ) × (o ≡ Some k) × (k + 1 ≡ n)
one_less None n e = absurd (cc e)
one_less (Some k) n e = (k, refl, cc)

body_within' : (b : Bool) (o : Option ℕ) (len n : ℕ) → ((k : ℕ) → o ≡ Some k → k < len)
    → cond b (Some 0) (option_map (λ k. k + 1) o) ≡ Some n → n < suc len
body_within' true o len n each e = let z : 0 ≡ n = cc in omega arith
body_within' false o len n each e = let s = one_less o n e in omega (arith, s.2, each s.0 s.1)

body_len-within : (quote : ℕ) (starred : Bool) (bytes : List ℕ) (n : ℕ) → body_len quote starred bytes ≡ Some n
    → n < length bytes
unfolding body_len
body_len-within quote starred [] n e = absurd (cc e)
body_len-within quote true (c ∷ rest) n e = body_within' false (body_len quote false rest) (length rest) n
    (body_len-within quote false rest) e
body_len-within quote false (c ∷ rest) n e = body_within' (eqb c quote) (body_len quote (eqb c 42) rest)
    (length rest) n (body_len-within quote (eqb c 42) rest) e

body_front' : (b : Bool) (o longer : Option ℕ) (n : ℕ) → ((k : ℕ) → o ≡ Some k → longer ≡ Some k)
    → cond b (Some 0) (option_map (λ k. k + 1) o) ≡ Some n → cond b (Some 0) (option_map (λ k. k + 1) longer) ≡ Some n
body_front' true o longer n each e = e
body_front' false o longer n each e = let s =
    one_less o n e in ap (option_map (λ k. k + 1)) (each s.0 s.1) ∙ ap Some s.2

body_len-front : (quote : ℕ) (starred : Bool) (bytes more : List ℕ) (n : ℕ) → body_len quote starred bytes ≡ Some n
    → body_len quote starred (bytes ++ more) ≡ Some n
unfolding body_len
body_len-front quote starred [] more n e = absurd (cc e)
body_len-front quote true (c ∷ rest) more n e =
    body_front' false (body_len quote false rest) (body_len quote false (rest ++ more)) n
    (body_len-front quote false rest more) e
body_len-front quote false (c ∷ rest) more n e =
    body_front' (eqb c quote) (body_len quote (eqb c 42) rest) (body_len quote (eqb c 42) (rest ++ more)) n
    (body_len-front quote (eqb c 42) rest more) e

body_take' : (b : Bool) (o : Option ℕ) (shorter : ℕ → Option ℕ) (n : ℕ)
    → ((k : ℕ) → o ≡ Some k → shorter (k + 1) ≡ Some k) → cond b (Some 0) (option_map (λ k. k + 1) o) ≡ Some n
    → cond b (Some 0) (option_map (λ k. k + 1) (shorter n)) ≡ Some n
body_take' true o shorter n each e = e
body_take' false o shorter n each e = let s =
    one_less o n e in ap (λ (m : ℕ). option_map (λ k. k + 1) (shorter m)) (sym s.2) ∙ ap (option_map (λ k. k + 1))
    (each s.0 s.1) ∙ ap Some s.2

body_len-take : (quote : ℕ) (starred : Bool) (bytes : List ℕ) (n : ℕ) → body_len quote starred bytes ≡ Some n
    → body_len quote starred (take (n + 1) bytes) ≡ Some n
unfolding body_len
body_len-take quote starred [] n e = absurd (cc e)
body_len-take quote true (c ∷ rest) n e =
    let one : n + 1 ≡ suc n = omega arith in
    rw one (body_take' false (body_len quote false rest) (λ (m : ℕ). body_len quote false (take m rest)) n
    (body_len-take quote false rest) e)
body_len-take quote false (c ∷ rest) n e =
    let one : n + 1 ≡ suc n = omega arith in
    rw one (body_take' (eqb c quote) (body_len quote (eqb c 42) rest)
    (λ (m : ℕ). body_len quote (eqb c 42) (take m rest)) n (body_len-take quote (eqb c 42) rest) e)

-- a byte that begins a literal with this quote
abbrev pub IsQuoted : ℕ → ℕ → Type 0
IsQuoted quote c = (rest : List ℕ) → is_lexeme (c ∷ rest) ≡ is_last (length rest) (body_len quote false rest)

pub longest_quoted : (quote c len : ℕ) (rest : List ℕ) → IsQuoted quote c → body_len quote false rest ≡ Some len
    → IsLongest (c ∷ take (len + 1) rest) (drop (len + 1) rest)
longest_quoted quote c len rest quoted e =
    let inside = body_len-within quote false rest len e in
    let text = take (len + 1) rest in
    let whole : length text ≡ len + 1 = length-take-le (len + 1) rest (omega arith) in
    record {
      lexeme = quoted text ∙ ap (is_last (length text)) (body_len-take quote false rest len e) ∙ eq-eqb _ _ whole;
      longest = λ more others some f. quoted (text ++ more) ∙ ap (is_last (length (text ++ more)))
          (body_len-front quote false text more len (body_len-take quote false rest len e))
          ∙ ne_eqb _ _ (λ same. omega (arith, length-append text more, whole, some, same));
    }

closed : (len : ℕ) (o : Option ℕ) → is_last len o ≡ true → (n : ℕ) × (o ≡ Some n)
closed len None h = absurd (cc h)
closed len (Some n) h = (n, refl)

unclosed : (quote c : ℕ) (rest : List ℕ) → IsQuoted quote c → body_len quote false rest ≡ None
    → (text others : List ℕ) → c ∷ rest ≡ text ++ others → is_lexeme text ≡ true → ⊥
unfolding is_lexeme
unclosed quote c rest quoted e [] others f lexeme = cc lexeme
unclosed quote c rest quoted e (d ∷ text) others f lexeme =
    let heads : c ≡ d = cc in
    let tails : rest ≡ text ++ others = cc in
    let s = closed (length text) (body_len quote false text)
    (sym (quoted text) ∙ ap (λ (k : ℕ). is_lexeme (k ∷ text)) heads ∙ lexeme) in
    let found = body_len-front quote false text others s.0 s.1 in
    let none : body_len quote false (text ++ others) ≡ None = ap (body_len quote false) (sym tails) ∙ e in
    cc

-- without a second quote nothing is a token
pub no_quoted : (quote c : ℕ) (rest : List ℕ) → IsQuoted quote c → body_len quote false rest ≡ None
    → IsRefused (c ∷ rest)
no_quoted quote c rest quoted e = no_lexeme (c ∷ rest) (unclosed quote c rest quoted e)

pub body_of-take : (len : ℕ) (rest : List ℕ) → len < length rest → body_of (take (len + 1) rest) ≡ take len rest
body_of-take len rest lt =
    let whole : length (take (len + 1) rest) - 1 ≡ len = omega (arith, length-take-le (len + 1) rest (omega arith)) in
    ap (λ (n : ℕ). take n (take (len + 1) rest)) whole ∙ take-take len (len + 1) rest (omega arith)

-- ---- characters and strings

-- a byte that begins no name and no number
pub record IsNoNumber (c : ℕ) : Type 0 where
  pub no_letter : is_ascii_alphabetic c ≡ false
  pub no_digit : is_ascii_digit c ≡ false
  pub no_hash : eqb c 35 ≡ false

pub record IsSingle (c : ℕ) : Type 0 where
  pub no_number : IsNoNumber c
  pub quote : eqb c 39 ≡ true

pub record IsDouble (c : ℕ) : Type 0 where
  pub no_number : IsNoNumber c
  pub no_single : eqb c 39 ≡ false
  pub quote : eqb c 34 ≡ true

lexeme-single : (c : ℕ) → IsSingle c → IsQuoted 39 c
unfolding is_lexeme
lexeme-single c h rest = rw (h.no_number.no_letter, h.no_number.no_digit, h.no_number.no_hash, h.quote) refl

lexeme-double : (c : ℕ) → IsDouble c → IsQuoted 34 c
unfolding is_lexeme
lexeme-double c h rest = rw (
  h.no_number.no_letter,
  h.no_number.no_digit,
  h.no_number.no_hash,
  h.no_single,
  h.quote,
) refl

meaning-single : (c : ℕ) (rest : List ℕ) → IsSingle c
    → meaning (c ∷ rest) ≡ option_and_then character_of (decoded 0 (body_of rest))
unfolding meaning
meaning-single c rest h = cond-false (is_ascii_alphabetic c) _ _ h.no_number.no_letter
    ∙ cond-false (is_ascii_digit c) _ _
    h.no_number.no_digit ∙ cond-false (eqb c 35) _ _ h.no_number.no_hash ∙ cond-true (eqb c 39) _ _ h.quote

meaning-double : (c : ℕ) (rest : List ℕ) → IsDouble c → meaning (c ∷ rest) ≡ option_map Text (decoded 0 (body_of rest))
unfolding meaning
meaning-double c rest h = cond-false (is_ascii_alphabetic c) _ _ h.no_number.no_letter
    ∙ cond-false (is_ascii_digit c) _ _
    h.no_number.no_digit ∙ cond-false (eqb c 35) _ _ h.no_number.no_hash ∙ cond-false (eqb c 39) _ _ h.no_single
    ∙ cond-true (eqb c 34) _
    _ h.quote

found_quoted : (quote c len : ℕ) (rest : List ℕ) (kind : Kind) → IsQuoted quote c
    → body_len quote false rest ≡ Some len → meaning (c ∷ take (len + 1) rest) ≡ Some kind
    → Finds (c ∷ rest) kind (len + 2)
found_quoted quote c len rest kind quoted e means =
    let two : suc (len + 1) ≡ len + 2 = omega arith in
    let inside = body_len-within quote false rest len e in
    subst (λ (n : ℕ). Finds (c ∷ rest) kind n) two
    (record { within = omega (arith, inside); longest = longest_quoted quote c len rest quoted e; means = means })

refused_quoted : (quote c len : ℕ) (rest : List ℕ) → IsQuoted quote c → body_len quote false rest ≡ Some len
    → meaning (c ∷ take (len + 1) rest) ≡ None → IsRefused (c ∷ rest)
refused_quoted quote c len rest quoted e no_meaning =
    refused_by (c ∷ rest) (suc (len + 1)) (longest_quoted quote c len rest quoted e) no_meaning

quoted_means : (quote c len : ℕ) (rest : List ℕ) (d : Option (List ℕ)) (mean : Option (List ℕ) → Option Kind)
    → ((body : List ℕ) → meaning (c ∷ body) ≡ mean (decoded 0 (body_of body)))
    → body_len quote false rest ≡ Some len → decoded 0 (take len rest) ≡ d
    → meaning (c ∷ take (len + 1) rest) ≡ mean d
quoted_means quote c len rest d mean means e f =
    means (take (len + 1) rest)
    ∙ ap (λ (body : List ℕ). mean (decoded 0 body)) (body_of-take len rest (body_len-within quote false rest len e))
    ∙ ap mean f

single-of : (c len : ℕ) (rest : List ℕ) (d : Option (List ℕ)) → IsSingle c → body_len 39 false rest ≡ Some len
    → decoded 0 (take len rest) ≡ d → meaning (c ∷ take (len + 1) rest) ≡ option_and_then character_of d
single-of c len rest d h e f =
    quoted_means 39 c len rest d (option_and_then character_of) (λ body. meaning-single c body h) e f

double-of : (c len : ℕ) (rest : List ℕ) (d : Option (List ℕ)) → IsDouble c → body_len 34 false rest ≡ Some len
    → decoded 0 (take len rest) ≡ d → meaning (c ∷ take (len + 1) rest) ≡ option_map Text d
double-of c len rest d h e f = quoted_means 34 c len rest d (option_map Text) (λ body. meaning-double c body h) e f

abbrev meant_at : Option (List ℕ) → ℕ → Result (List ℕ × ℕ) Fault
meant_at d len =
    let pair : List ℕ → Result (List ℕ × ℕ) Fault = λ meant. Ok (meant, len) in
    ok_or d faults.Literal >>= pair

abbrev as_character : List ℕ × ℕ → Result (Kind × ℕ) Fault
as_character body = one_byte body.0 >>= λ byte. Ok (Character byte, body.1 + 2)

abbrev as_string : List ℕ × ℕ → Result (Kind × ℕ) Fault
as_string body = Ok (Text body.0, body.1 + 2)

-- by what is before the second quote, if there is one
quoted_agrees : (quote c : ℕ) (rest : List ℕ) (read : List ℕ × ℕ → Result (Kind × ℕ) Fault) (o : Option ℕ)
    → IsQuoted quote c → body_len quote false rest ≡ o
    → ((len : ℕ) → body_len quote false rest ≡ Some len
    → Agrees (c ∷ rest) (meant_at (decoded 0 (take len rest)) len >>= read))
    → Agrees (c ∷ rest) (ok_or o faults.Literal >>= (λ len. meant_at (decoded 0 (take len rest)) len) >>= read)
quoted_agrees quote c rest read None quoted e agrees = no_quoted quote c rest quoted e
quoted_agrees quote c rest read (Some len) quoted e agrees = agrees len e

character_with : (c len : ℕ) (rest : List ℕ) (d : Option (List ℕ)) → IsSingle c → body_len 39 false rest ≡ Some len
    → decoded 0 (take len rest) ≡ d
    → Agrees (c ∷ rest) (meant_at d len >>= as_character)
character_with c len rest None h e f = refused_quoted 39 c len rest (lexeme-single c h) e
    (single-of c len rest None h e f)
character_with c len rest (Some []) h e f = refused_quoted 39 c len rest (lexeme-single c h) e
    (single-of c len rest (Some []) h e f)
character_with c len rest (Some (byte ∷ [])) h e f =
    found_quoted 39 c len rest (Character byte) (lexeme-single c h) e (single-of c len rest (Some (byte ∷ [])) h e f)
character_with c len rest (Some (byte ∷ other ∷ others)) h e f =
    refused_quoted 39 c len rest (lexeme-single c h) e (single-of c len rest (Some (byte ∷ other ∷ others)) h e f)

found-character : (c : ℕ) (rest : List ℕ) → IsSingle c → Agrees (c ∷ rest) (character_at rest)
unfolding character_at quoted_at
found-character c rest h =
    quoted_agrees 39 c rest as_character (body_len 39 false rest) (lexeme-single c h) refl
    (λ len e. character_with c len rest (decoded 0 (take len rest)) h e refl)

string_with : (c len : ℕ) (rest : List ℕ) (d : Option (List ℕ)) → IsDouble c → body_len 34 false rest ≡ Some len
    → decoded 0 (take len rest) ≡ d
    → Agrees (c ∷ rest) (meant_at d len >>= as_string)
string_with c len rest None h e f = refused_quoted 34 c len rest (lexeme-double c h) e (double-of c len rest None h e f)
string_with c len rest (Some bytes) h e f = found_quoted 34 c len rest (Text bytes) (lexeme-double c h) e
    (double-of c len rest (Some bytes) h e f)

found-string : (c : ℕ) (rest : List ℕ) → IsDouble c → Agrees (c ∷ rest) (string_at rest)
unfolding string_at quoted_at
found-string c rest h =
    quoted_agrees 34 c rest as_string (body_len 34 false rest) (lexeme-double c h) refl
    (λ len e. string_with c len rest (decoded 0 (take len rest)) h e refl)

-- ---- signs

pub record IsOther (c : ℕ) : Type 0 where
  pub no_number : IsNoNumber c
  pub no_single : eqb c 39 ≡ false
  pub no_double : eqb c 34 ≡ false

lexeme-other : (c : ℕ) (rest : List ℕ) → IsOther c → is_lexeme (c ∷ rest) ≡ is_sign (c ∷ rest)
unfolding is_lexeme
lexeme-other c rest h = cond-false (is_ascii_alphabetic c) _ _ h.no_number.no_letter ∙ cond-false (is_ascii_digit c) _ _
    h.no_number.no_digit ∙ cond-false (eqb c 35) _ _ h.no_number.no_hash ∙ cond-false (eqb c 39) _ _ h.no_single
    ∙ cond-false (eqb c 34)
    _ _ h.no_double

meaning-other : (c : ℕ) (rest : List ℕ) → IsOther c → meaning (c ∷ rest) ≡ Some (Mark (c ∷ rest))
unfolding meaning
meaning-other c rest h = cond-false (is_ascii_alphabetic c) _ _ h.no_number.no_letter
    ∙ cond-false (is_ascii_digit c) _ _
    h.no_number.no_digit ∙ cond-false (eqb c 35) _ _ h.no_number.no_hash ∙ cond-false (eqb c 39) _ _ h.no_single
    ∙ cond-false (eqb c 34)
    _ _ h.no_double

none_long : (text : List ℕ) (words : List (List ℕ)) → list_all (λ word. nat_lt (length word) 3) words ≡ true
    → 3 ≤ length text → list_any (bytes_eq text) words ≡ false
none_long text [] short long = refl
none_long text (w ∷ words) short long =
    let both = and_parts (nat_lt (length w) 3) (list_all (λ word. nat_lt (length word) 3) words) short in
    let lt = ltb-true (length w) 3 both.0 in
    or_from (bytes_eq text w) (list_any (bytes_eq text) words)
    (bytes_eq-longer text w (λ same. omega (arith, same, lt, long))) (none_long text words both.1 long)

long_no_sign : (text : List ℕ) → 3 ≤ length text → is_sign text ≡ false
long_no_sign text long = none_long text signs refl long

alone_longest : (c : ℕ) (rest : List ℕ) → IsOther c
    → ((d : ℕ) (others : List ℕ) → rest ≡ d ∷ others → is_sign (c ∷ d ∷ []) ≡ false) → (more others : List ℕ)
    → 0 < length more → rest ≡ more ++ others → is_lexeme ((c ∷ []) ++ more) ≡ false
alone_longest c rest h alone [] others some e = absurd (omega (arith, some))
alone_longest c rest h alone (d ∷ []) others some e = lexeme-other c (d ∷ []) h ∙ alone d others e
alone_longest c rest h alone (d ∷ f ∷ more) others some e =
    lexeme-other c (d ∷ f ∷ more) h ∙ long_no_sign (c ∷ d ∷ f ∷ more) (omega arith)

no_sign_from : (c : ℕ) (rest text others : List ℕ) → IsOther c → is_sign (c ∷ []) ≡ false
    → ((d : ℕ) (others : List ℕ) → rest ≡ d ∷ others → is_sign (c ∷ d ∷ []) ≡ false) → rest ≡ text ++ others
    → is_lexeme (c ∷ text) ≡ true → ⊥
no_sign_from c rest [] others h is_not alone e lexeme = both_ways _ is_not (sym (lexeme-other c [] h) ∙ lexeme)
no_sign_from c rest (d ∷ []) others h is_not alone e lexeme =
    both_ways _ (alone d others e) (sym (lexeme-other c (d ∷ []) h) ∙ lexeme)
no_sign_from c rest (d ∷ f ∷ more) others h is_not alone e lexeme =
    both_ways _ (long_no_sign (c ∷ d ∷ f ∷ more) (omega arith)) (sym (lexeme-other c (d ∷ f ∷ more) h) ∙ lexeme)

no_sign : (c : ℕ) (rest : List ℕ) → IsOther c → is_sign (c ∷ []) ≡ false
    → ((d : ℕ) (others : List ℕ) → rest ≡ d ∷ others → is_sign (c ∷ d ∷ []) ≡ false) → (text others : List ℕ)
    → c ∷ rest ≡ text ++ others → is_lexeme text ≡ true → ⊥
unfolding is_lexeme
no_sign c rest h is_not alone [] others e lexeme = cc lexeme
no_sign c rest h is_not alone (d ∷ text) others e lexeme =
    let heads : c ≡ d = cc in
    let tails : rest ≡ text ++ others = cc in
    no_sign_from c rest text others h is_not alone tails (ap (λ (k : ℕ). is_lexeme (k ∷ text)) heads ∙ lexeme)

-- a single sign, where it is no part of a pair
single_with : (b : Bool) (c : ℕ) (rest : List ℕ) → IsOther c → is_sign (c ∷ []) ≡ b
    → ((d : ℕ) (others : List ℕ) → rest ≡ d ∷ others → is_sign (c ∷ d ∷ []) ≡ false)
    → Agrees (c ∷ rest) (ok_or (cond b (Some (Mark (c ∷ []))) None) faults.Character >>= λ kind. Ok (kind, 1))
single_with true c rest h is alone = record {
  within = omega arith;
  longest = record { lexeme = lexeme-other c [] h ∙ is; longest = alone_longest c rest h alone };
  means = meaning-other c [] h;
}
single_with false c rest h is_not alone = no_lexeme (c ∷ rest) (no_sign c rest h is_not alone)

found-single : (c : ℕ) (rest : List ℕ) → IsOther c
    → ((d : ℕ) (others : List ℕ) → rest ≡ d ∷ others → is_sign (c ∷ d ∷ []) ≡ false) → Agrees (c ∷ rest) (single_at c)
unfolding single_at
found-single c rest h alone = single_with (is_sign (c ∷ [])) c rest h refl alone

pair_longest : (c d : ℕ) (rest : List ℕ) → IsOther c → (more others : List ℕ) → 0 < length more
    → rest ≡ more ++ others → is_lexeme ((c ∷ d ∷ []) ++ more) ≡ false
pair_longest c d rest h [] others some e = absurd (omega (arith, some))
pair_longest c d rest h (f ∷ more) others some e =
    lexeme-other c (d ∷ f ∷ more) h ∙ long_no_sign (c ∷ d ∷ f ∷ more) (omega arith)

first_of_two : (c d : ℕ) (rest : List ℕ) → is_sign (c ∷ d ∷ []) ≡ false → (f : ℕ) (others : List ℕ)
    → d ∷ rest ≡ f ∷ others → is_sign (c ∷ f ∷ []) ≡ false
first_of_two c d rest no_pair f others e =
    let heads : d ≡ f = cc in
    ap (λ (k : ℕ). is_sign (c ∷ k ∷ [])) (sym heads) ∙ no_pair

pair_with : (b : Bool) (c d : ℕ) (rest : List ℕ) → IsOther c → is_sign (c ∷ d ∷ []) ≡ b
    → Agrees (c ∷ d ∷ rest) (pair_or (cond b (Some (Mark (c ∷ d ∷ []))) None) (single_at c))
pair_with true c d rest h is = record {
  within = omega arith;
  longest = record { lexeme = lexeme-other c (d ∷ []) h ∙ is; longest = pair_longest c d rest h };
  means = meaning-other c (d ∷ []) h;
}
pair_with false c d rest h is_not = found-single c (d ∷ rest) h (first_of_two c d rest is_not)

none_behind : (c d : ℕ) (others : List ℕ) → [] ≡ d ∷ others → is_sign (c ∷ d ∷ []) ≡ false
none_behind c d others e = absurd (cc e)

found-sign : (c : ℕ) (rest : List ℕ) → IsOther c → Agrees (c ∷ rest) (sign_at (c ∷ rest))
unfolding sign_at
found-sign c [] h = found-single c [] h (none_behind c)
found-sign c (d ∷ rest) h = pair_with (is_sign (c ∷ d ∷ [])) c d rest h refl

-- ---- any token

nothing_there : (text rest : List ℕ) → [] ≡ text ++ rest → is_lexeme text ≡ true → ⊥
unfolding is_lexeme
nothing_there [] rest e lexeme = cc lexeme
nothing_there (c ∷ text) rest e lexeme = cc e

empty_refused : IsRefused []
unfolding is_lexeme
empty_refused = record { none = λ text rest kind e l m. nothing_there text rest e l.lexeme }

pub token-found : (bytes : List ℕ) → Agrees bytes (token_at bytes)
unfolding token_at
token-found [] = empty_refused
token-found (c ∷ rest) =
    cond_both (is_ascii_alphabetic c) (Ok (word_at (c ∷ rest))) _ (Agrees (c ∷ rest)) (λ h. found-word c rest h)
    (λ no_letter.
    cond_both (is_ascii_digit c) (decimal_at (c ∷ rest)) _ (Agrees (c ∷ rest))
    (λ h. found-decimal c rest (record { no_letter = no_letter; digit = h })) (λ no_digit.
    cond_both (eqb c 35) (hexadecimal_at rest) _ (Agrees (c ∷ rest))
    (λ h. found-hexadecimal c rest (record { no_letter = no_letter; no_digit = no_digit; hash = h })) (λ no_hash.
    let no_number : IsNoNumber c = record { no_letter = no_letter; no_digit = no_digit; no_hash = no_hash } in
    cond_both (eqb c 39) (character_at rest) _ (Agrees (c ∷ rest))
    (λ h. found-character c rest (record { no_number = no_number; quote = h })) (λ no_single.
    cond_both (eqb c 34) (string_at rest) (sign_at (c ∷ rest)) (Agrees (c ∷ rest))
    (λ h. found-string c rest (record { no_number = no_number; no_single = no_single; quote = h })) (λ no_double.
    found-sign c rest (record { no_number = no_number; no_single = no_single; no_double = no_double }))))))
