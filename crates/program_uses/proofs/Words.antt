-- What words have of 64 numbers.
use Rattle.std.proofs.Common.{◌≡◌, ℕ, ◌+◌, ◌*◌, ◌%◌, ◌^◌, ◌<◌, max, min, true, false, ◌&&◌, ◌||◌, not}
use Rattle.std.proofs.Common.{nat_eq, nat_lt, bit_and, ◌↔◌, inl, inr, sym, ap, ◌∙◌}
use Rattle.std.proofs.Common.{arith, ltb-true, lt-ltb, eq-eqb, eqb-true}
use Rattle.std.specs.Int.{bit_at, w64, trailing_zeros}
use Rattle.std.specs.Int.RustNames.{bit_or}
use Rattle.std.proofs.lemmas.Bool.{cases_eq, cases_lt, ne_eqb}
use Rattle.std.proofs.lemmas.Bool.Decides.{nat_tests}
use Rattle.std.proofs.lemmas.Nat.{one_shl}
use Rattle.std.proofs.lemmas.Nat.Bits.{bit_at-zero, bit_at_or, bit_at_and, bit_at-lt}
use Rattle.std.proofs.lemmas.Nat.Bits.{bit_at-pow_same, bit_at-pow_other}
use Rattle.std.proofs.lemmas.Nat.Bits.{bit_at-trailing_zeros}
use Rattle.program_uses.specs.Words.{has_bit, HasBelow}

pub has_none : (p : ℕ) → has_bit 0 p ≡ false
unfolding has_bit
has_none p = ap (λ b. nat_eq b 1) (bit_at-zero p)

either_is : (a b : ℕ) → a < 2 → b < 2 → nat_eq (max a b) 1 ≡ (nat_eq a 1 || nat_eq b 1)
either_is a b p q = grind (arith, nat_tests)

both_are : (a b : ℕ) → a < 2 → b < 2 → nat_eq (min a b) 1 ≡ (nat_eq a 1 && nat_eq b 1)
both_are a b p q = grind (arith, nat_tests)

pub has_either : (a b p : ℕ) → has_bit (bit_or a b) p ≡ (has_bit a p || has_bit b p)
unfolding has_bit
has_either a b p =
    ap (λ x. nat_eq x 1) (bit_at_or a b p) ∙ either_is (bit_at a p) (bit_at b p) (bit_at-lt a p) (bit_at-lt b p)

pub has_both : (a b p : ℕ) → has_bit (bit_and a b) p ≡ (has_bit a p && has_bit b p)
unfolding has_bit
has_both a b p =
    ap (λ x. nat_eq x 1) (bit_at_and a b p) ∙ both_are (bit_at a p) (bit_at b p) (bit_at-lt a p) (bit_at-lt b p)

-- the word of one number
pub has_one : (k p : ℕ) → k < 64 → has_bit (1 * 2 ^ k % 2 ^ 64) p ≡ nat_eq p k
unfolding has_bit
has_one k p h =
    ap (λ w. nat_eq (bit_at w p) 1) (one_shl k 64 h)
    ∙ (elim (cases_eq p k) [
      | inl e ↦ ap (λ q. nat_eq (bit_at (2 ^ k) q) 1) e ∙ ap (λ b. nat_eq b 1) (bit_at-pow_same k)
          ∙ sym (eq-eqb p k e)
      | inr ne ↦ ap (λ b. nat_eq b 1) (bit_at-pow_other k p ne) ∙ sym (ne_eqb p k ne)
    ])

-- the lowest number of a word, if that has any
pub any_below : (count block word : ℕ) → 0 < word → word < 2 ^ 64
    → (nat_lt (64 * block + trailing_zeros w64 word) count ≡ true) ↔ HasBelow count block word
unfolding has_bit
any_below count block word some fits =
    let lowest = bit_at-trailing_zeros w64 word some fits in (
      λ e. (
        trailing_zeros w64 word,
        lowest.0,
        ltb-true _ _ e,
        ap (λ b. nat_eq b 1) lowest.1,
      ),
      λ h. lt-ltb _ _ (elim (cases_lt h.0 (trailing_zeros w64 word)) [
        | inl less ↦ absurd (let none : bit_at word h.0 ≡ 0 = lowest.2 h.0 less in
            let one : bit_at word h.0 ≡ 1 = eqb-true _ _ h.3 in omega (arith, none, one))
        | inr from ↦ (let at = h.2 in omega (arith, at, from))
      ]),
    )

pub none_true : (word : ℕ) → word ≡ 0 → not (nat_eq word 0) ≡ true → ⊥
none_true word none e = let k : false ≡ true = ap (λ b. not b) (sym (eq-eqb word 0 none)) ∙ e in cc

pub none_below : (count block word : ℕ) → word ≡ 0 → HasBelow count block word → ⊥
none_below count block word none h =
    let k : true ≡ false = sym h.3 ∙ ap (λ w. has_bit w h.0) none ∙ has_none h.0 in cc
