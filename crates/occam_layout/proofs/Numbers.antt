-- The number that digits spell.
use Rattle.std.proofs.Common.{◌≡◌, ℕ, zero, suc, ◌+◌, ◌*◌, ◌^◌, ◌<◌, ◌≤◌, Bool, true, false, cond, leb, List, [], ◌∷◌}
use Rattle.std.proofs.Common.{length, get_or, take, drop, fold, Some, None, refl, ap, ◌∙◌, arith}
use Rattle.std.specs.List.{prefix_len, AllByRecursion}
use Rattle.std.specs.Char.{digit_value, is_ascii_hexdigit}
use Rattle.std.proofs.Math.Nat.{mul-le-mul_right, le-mul_of_pos_right, pow-suc, mul_assoc, mul_comm}
use Rattle.std.proofs.lemmas.List.{at_drop_more}
use Rattle.std.proofs.lemmas.List.Folds.{length-prefix_len}
use Rattle.std.proofs.lemmas.Bool.Decides.{nat_tests}
use Rattle.occam_layout.specs.Reading.{value}

abbrev pub step : ℕ → ℕ → ℕ → ℕ
step base n digit = n * base + digit_value digit

grows : (base n : ℕ) (digits : List ℕ) → 0 < base → n ≤ fold (step base) n digits
grows base n [] some = omega arith
grows base n (digit ∷ digits) some = omega (
  arith,
  le-mul_of_pos_right n some,
  grows base (step base n digit) digits
      some,
)

above : (total max : ℕ) → max < total → None ≡ cond (leb total max) (Some total) None
above total max lt = grind (arith, nat_tests)

-- once the number so far is above a bound, so is the whole
pub is_above : (base max number i : ℕ) (digits : List ℕ) → 0 < base → i < length digits
    → max < step base number (get_or digits i 0) → fold (step base) number (drop i digits) ≡ value base digits
    → None ≡ cond (leb (value base digits) max) (Some (value base digits)) None
is_above base max number i digits some lt over so_far =
    let one = at_drop_more (fold (step base) number) digits i 0 lt in
    let more = grows base (step base number (get_or digits i 0)) (drop (i + 1) digits) some in
    above (value base digits) max (omega (arith, one, more, over, so_far))

-- ---- hexadecimal digits fit a word

pub digit-below : (c : ℕ) → is_ascii_hexdigit c ≡ true → digit_value c < 16
digit-below c h = grind (arith, nat_tests)

front : (b : Bool) (c n : ℕ) (rest : List ℕ) → (b ≡ true → digit_value c < 16)
    → AllByRecursion (λ d. digit_value d < 16) (take n rest)
    → AllByRecursion (λ d. digit_value d < 16) (take (cond b (1 + n) 0) (c ∷ rest))
front true c n rest small others = let one : 1 + n ≡ suc n = omega arith in rw one (small refl, others)
front false c n rest small others = tt

hex-front : (bytes : List ℕ) → AllByRecursion (λ d. digit_value d < 16)
    (take (prefix_len is_ascii_hexdigit bytes) bytes)
hex-front [] = tt
hex-front (c ∷ rest) = front (is_ascii_hexdigit c) c (prefix_len is_ascii_hexdigit rest) rest (digit-below c)
    (hex-front rest)

pow_pos : (k : ℕ) → 0 < 16 ^ k
pow_pos zero = omega arith
pow_pos (suc k) = omega (arith, pow-suc 16 k, pow_pos k)

scale : (x m n p q : ℕ) → q ≡ p * 16 → m ≤ n * 16 → x < m * p → x < n * q
scale x m n p q is_q le lt =
    let product : n * 16 * p ≡ n * q = rw is_q (mul_assoc n 16 p ∙ ap (λ (k : ℕ). n * k) (mul_comm 16 p)) in
    omega (arith, mul-le-mul_right p le, product)

bounded : (k n : ℕ) (digits : List ℕ) → length digits ≤ k → AllByRecursion (λ d. digit_value d < 16) digits
    → fold (step 16) n digits < (n + 1) * 16 ^ k
bounded zero n [] le small = omega arith
bounded zero n (d ∷ digits) le small = absurd (omega (arith, le))
bounded (suc k) n [] le small = omega (arith, le-mul_of_pos_right (n + 1) (pow_pos (suc k)))
bounded (suc k) n (d ∷ digits) le small =
    let one : step 16 n d + 1 ≤ (n + 1) * 16 = omega (arith, small.0) in
    scale _ (step 16 n d + 1) (n + 1) (16 ^ k) (16 ^ suc k) (pow-suc 16 k) one
    (bounded k (step 16 n d) digits (omega (arith, le)) small.1)

-- so the test against the greatest word never fails
pub not_above : (number max : ℕ) → number ≤ max → None ≡ cond (leb number max) (Some number) None → ⊥
not_above number max le e = grind (arith, nat_tests)

pub fits_word : (bytes : List ℕ) → prefix_len is_ascii_hexdigit bytes ≤ 8
    → value 16 (take (prefix_len is_ascii_hexdigit bytes) bytes) < 2 ^ 32
fits_word bytes le = bounded 8 0 _ (omega (arith, le, length-prefix_len is_ascii_hexdigit bytes)) (hex-front bytes)

pub fits : (bytes text : List ℕ) (len : ℕ) → len ≡ prefix_len is_ascii_hexdigit bytes → len ≤ 8
    → text ≡ take len bytes → value 16 text ≤ 4294967295
fits bytes text len is_len le is_text =
    let short : prefix_len is_ascii_hexdigit bytes ≤ 8 = omega arith in
    let same : value 16 text ≡ value 16 (take (prefix_len is_ascii_hexdigit bytes) bytes) =
    ap (value 16) (is_text ∙ ap (λ (n : ℕ). take n bytes) is_len) in
    omega (arith, same, fits_word bytes short)
