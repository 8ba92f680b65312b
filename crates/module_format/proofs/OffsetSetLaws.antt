-- Sets of code offsets as bits.
use Rattle.std.proofs.Common.{◌≡◌, ◌≢◌, ℕ, zero, suc, ◌*◌, ◌/◌, ◌%◌, ◌^◌, ◌<◌, Bool, false, eqb, List, [], ◌∷◌, ◌++◌}
use Rattle.std.proofs.Common.{length, replicate, refl, sym, ap, ◌∙◌, inl, inr, arith, bit_or, w64}
use Rattle.std.specs.Prelude.{◌==◌, ◌||◌, slice_index, slice_set}
use Rattle.std.specs.List.{list_any}
use Rattle.std.specs.Int.{bit_at}
use Rattle.std.proofs.Math.Bool.{or-false, or-true}
use Rattle.std.proofs.Math.Nat.{div-add-mod}
use Rattle.std.proofs.lemmas.Bool.{cases_eq, eq-eqb, ne_eqb}
use Rattle.std.proofs.lemmas.List.{get_or-set_same, get_or-set_other}
use Rattle.std.proofs.lemmas.List.Folds.{list_any-append}
use Rattle.std.proofs.lemmas.Nat.{one_shl}
use Rattle.std.proofs.lemmas.Nat.Bits.{bit_at-zero, bit_at_set_same, bit_at_set_other}
use Rattle.module_format.specs.OffsetSet.{has_offset, IsSetOf}

zeros : (n i : ℕ) → slice_index (replicate n 0) i ≡ 0
zeros zero i = refl
zeros (suc n) zero = refl
zeros (suc n) (suc i) = zeros n i

-- no offset has a bit in words that are 0
pub none_added : (n at : ℕ) → has_offset (replicate n 0) at ≡ false
none_added n at = rw (zeros n (at / 64), bit_at-zero (at % 64)) refl

-- the words with the bit of one more offset
abbrev pub with_bit : List ℕ → ℕ → List ℕ
with_bit words at = slice_set words (at / 64) (bit_or (slice_index words (at / 64)) (2 ^ (at % 64)))

-- one number more
any_more : (at n : ℕ) (numbers : List ℕ)
    → list_any (λ other. other == n) (numbers ++ at ∷ []) ≡ (list_any (λ other. other == n) numbers || (at == n))
any_more at n numbers =
    rw list_any-append (ap (λ (b : Bool). list_any (λ other. other == n) numbers || b) (or-false (eqb at n)))

-- what is in a set once an offset was added
pub has_added : (words : List ℕ) (at : ℕ) → at / 64 < length words → (n : ℕ)
    → has_offset (with_bit words at) n ≡ (has_offset words n || (at == n))
has_added words at inside n =
    let word = slice_index words (at / 64) in
    let below : at % 64 < 64 = omega arith in
    let mask : 2 ^ (at % 64) ≡ 1 * 2 ^ (at % 64) % 2 ^ 64 = sym (one_shl (at % 64) 64 below) in
    elim (cases_eq (n / 64) (at / 64)) [
      | inl here ↦ elim (cases_eq (n % 64) (at % 64)) [
        | inl same ↦
            let is : at ≡ n = omega (arith, div-add-mod n 64, div-add-mod at 64) in
            let set_bit : bit_at (bit_or word (2 ^ (at % 64))) (at % 64) ≡ 1 =
            ap (λ m. bit_at (bit_or word m) (at % 64)) mask ∙ bit_at_set_same w64 word (at % 64) below in
            rw (here, same, get_or-set_same words (at / 64) _ 0 inside, set_bit, eq-eqb at n is) (sym (or-true _))
        | inr other ↦
            let apart : at ≢ n = λ e. other (ap (λ (k : ℕ). k % 64) (sym e)) in
            let kept : bit_at (bit_or word (2 ^ (at % 64))) (n % 64) ≡ bit_at word (n % 64) =
            ap (λ m. bit_at (bit_or word m) (n % 64)) mask
            ∙ bit_at_set_other w64 word (at % 64) below (n % 64) other in
            rw (here, get_or-set_same words (at / 64) _ 0 inside, kept, ne_eqb at n apart) (sym (or-false _))
      ]
      | inr other ↦
          let apart : at ≢ n = λ e. other (ap (λ (k : ℕ). k / 64) (sym e)) in
          rw (get_or-set_other words (at / 64) (n / 64) _ 0 other, ne_eqb at n apart) (sym (or-false _))
    ]

-- the set of one offset more
pub one_more : (old new : List ℕ) (at : ℕ) (offsets : List ℕ)
    → ((n : ℕ) → has_offset new n ≡ (has_offset old n || (at == n)))
    → IsSetOf old offsets → IsSetOf new (offsets ++ at ∷ [])
one_more old new at offsets added has = record { each = λ n. rw (added n, has.each n) (sym (any_more at n offsets)) }
