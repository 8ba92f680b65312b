-- Lists that have grown by one, of which one place besides is set.
use Rattle.std.proofs.Common.{◌≡◌, ◌≢◌, ℕ, ◌+◌, ◌<◌, inl, inr, List, [], ◌∷◌, ◌++◌, length, Some}
use Rattle.std.proofs.Common.{◌∙◌, subst, arith, length-append}
use Rattle.std.proofs.lemmas.List.{length-set}
use Rattle.std.proofs.lemmas.Option.{slice_get_within}
use Rattle.std.specs.Prelude.{slice_get, slice_set}
use Rattle.small_laws.proofs.Lookups.{slice_get-append_left}
use Rattle.machine_state.proofs.Lines.{got_set, got_other, got_last, got_either, set_either}

-- the number of the last
pub got_end : {A : Type 0} (xs : List A) (z : A) (n : ℕ) → length xs ≡ n → slice_get (xs ++ z ∷ []) n ≡ Some z
got_end xs z n many = subst (λ (k : ℕ). slice_get (xs ++ z ∷ []) k ≡ Some z) many (got_last xs z)

-- what was in the list before is at the same place
pub got_within_grown : {A : Type 0} (xs : List A) (z : A) (q : ℕ) (x : A) → q < length xs
    → slice_get (xs ++ z ∷ []) q ≡ Some x → slice_get xs q ≡ Some x
got_within_grown xs z q x low is = elim (got_either xs z q x is) [
  | inl before ↦ before
  | inr last ↦ let at = last.0 in absurd (omega (arith, low, at))
]

module _ {A : Type 0} (xs : List A) (p : ℕ) (y z : A) where
  abbrev pub set_and_grown : List A
  set_and_grown = slice_set xs p y ++ z ∷ []

  pub length_changed : length set_and_grown ≡ length xs + 1
  length_changed = length-append (slice_set xs p y) (z ∷ [])
      ∙ (let same = length-set xs p y in omega (arith, same))

  -- the one that is set, the last one, and another one
  pub got_changed : (x : A) → slice_get xs p ≡ Some x → slice_get set_and_grown p ≡ Some y
  got_changed x here = slice_get-append_left (slice_set xs p y) (z ∷ []) p y (got_set xs p x y here)

  pub got_added : (n : ℕ) → length xs ≡ n → slice_get set_and_grown n ≡ Some z
  got_added n many = got_end (slice_set xs p y) z n (length-set xs p y ∙ many)

  pub got_unchanged : (q : ℕ) (x : A) → p ≢ q → slice_get xs q ≡ Some x → slice_get set_and_grown q ≡ Some x
  got_unchanged q x differ here =
      slice_get-append_left (slice_set xs p y) (z ∷ []) q x (got_other xs p q y differ ∙ here)

  -- whatever is in the list is one of these
  pub data StandsAs (q : ℕ) (x : A) : Type 0 where
    as_set : p ≡ q → x ≡ y → StandsAs q x
    as_added : q ≡ length xs → x ≡ z → StandsAs q x
    as_before : p ≢ q → q < length xs → slice_get xs q ≡ Some x → StandsAs q x

  pub stands_as : (q : ℕ) (x : A) → slice_get set_and_grown q ≡ Some x → StandsAs q x
  stands_as q x is = elim (got_either (slice_set xs p y) z q x is) [
    | inl there ↦ elim (set_either xs p y q x there) [
      | inl set ↦ as_set set.0 set.1
      | inr other ↦ as_before other.0 (slice_get_within xs q x other.1) other.1
    ]
    | inr last ↦ as_added (last.0 ∙ length-set xs p y) last.1
  ]
