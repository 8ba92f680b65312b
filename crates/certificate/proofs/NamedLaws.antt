-- Numbers that are listed once.
use Rattle.std.proofs.Common.{◌≡◌, ℤ, Bool, true, false, ◌||◌, List, [], ◌∷◌, refl, sym, ap, ◌∙◌, inl, inr}
use Rattle.std.proofs.lemmas.Bool.{cases_Bool}
use Rattle.std.specs.List.{dedup, dedup_from}
use Rattle.std.specs.Ordering.{int_eq, int_cmp, eq_by_cmp}
use Rattle.std.proofs.lemmas.Cmp.{int_eq_equiv}
use Rattle.certificate.specs.Named.{is_one_of}
use Rattle.certificate.proofs.EndOrder.{same_number}
use Rattle.certificate.proofs.AroundLaws.{same_order}

-- a test that is passed alike is asked once
asked_once : (a b rest : Bool) → b ≡ a → (a || rest) ≡ (a || (b || rest))
asked_once true b rest same = refl
asked_once false b rest same = rw same refl

-- what follows a number that was kept is kept but for the same number
kept_once : (j k : ℤ) (xs : List ℤ) → is_one_of (dedup_from int_eq k xs) j ≡ (int_eq j k || is_one_of xs j)
kept_once j k [] = refl
kept_once j k (x ∷ xs) = elim (cases_Bool (int_eq x k)) [
  | inl same ↦
      rw same (kept_once j k xs ∙ asked_once (int_eq j k) (int_eq j x) (is_one_of xs j)
      (int_eq_equiv.symm j x ∙ int_eq_equiv.congr x k j same ∙ int_eq_equiv.symm k j))
  | inr other ↦ rw other (ap (λ (b : Bool). int_eq j k || b) (kept_once j x xs))
]

-- listing each number once leaves the same numbers
pub same_once : (xs : List ℤ) (j : ℤ) → is_one_of (dedup int_eq xs) j ≡ is_one_of xs j
same_once [] j = refl
same_once (x ∷ xs) j = kept_once j x xs

-- numbers are equal where the order does not tell them apart
pub same_ties : (x y : ℤ) → int_eq x y ≡ eq_by_cmp int_cmp x y
same_ties x y = same_number x y ∙ sym (same_order x y)
