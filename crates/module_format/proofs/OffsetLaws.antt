-- Rows that rise by an offset, and the one at an offset.
use Rattle.std.proofs.Common.{◌≡◌, ◌≢◌, ℕ, zero, suc, ◌<◌, ◌≤◌, true, false, eqb, List, [], ◌∷◌, length, map, get_or}
use Rattle.std.proofs.Common.{Option, Some, None, refl, sym, ap, ◌∙◌, ltb, inl, inr, arith}
use Rattle.std.specs.Prelude.{⊤, is_some, ◌==◌, MatchOption}
use Rattle.std.specs.List.{list_any}
use Rattle.std.specs.List.Sorted.{IsNonDecreasingBy, IsPartitionPoint}
use Rattle.std.proofs.lemmas.List.{get_or_default}
use Rattle.std.proofs.lemmas.Bool.{cases_lt, ltb-true, ltb-false}
use Rattle.std.proofs.lemmas.Bool.Decides.{nat_tests}
use Rattle.std.proofs.Math.Bool.{or-true}
use Rattle.module_format.specs.Rows.{ProcedureRow}
use Rattle.module_format.specs.Contents.{procedure_of}
use Rattle.module_format.specs.Order.{InOrder}
use Rattle.module_format.specs.Procedures.{ProcedureKeeps, behind_procedure}
use Rattle.module_format.specs.Offsets.{IsNowhere, IsFirst, ProceduresRise}

module _ {X : Type 0} (offset : X → ℕ) where
  -- each row is after the one before it, the first after this offset
  abbrev pub Rise : ℕ → List X → Type 0
  Rise low [] = ⊤
  Rise low (x ∷ xs) = (low < offset x) × Rise (offset x) xs

  rise_at : (low : ℕ) (xs : List X) (n : ℕ) (d : X) → Rise low xs → n < length xs → low < offset (get_or xs n d)
  rise_at low [] n d r h = absurd (omega arith)
  rise_at low (x ∷ xs) zero d r h = r.0
  rise_at low (x ∷ xs) (suc n) d r h = let next = rise_at (offset x) xs n d r.1 (omega arith) in omega (arith, r.0)

  pub non_decreasing : (low : ℕ) (xs : List X) → Rise low xs → IsNonDecreasingBy offset xs
  non_decreasing low [] r i j d le lt = absurd (omega arith)
  non_decreasing low (x ∷ xs) r zero zero d le lt = omega arith
  non_decreasing low (x ∷ xs) r zero (suc j) d le lt = let next =
      rise_at (offset x) xs j d r.1 (omega arith) in omega arith
  non_decreasing low (x ∷ xs) r (suc i) zero d le lt = absurd (omega arith)
  non_decreasing low (x ∷ xs) r (suc i) (suc j) d le lt =
      non_decreasing (offset x) xs r.1 i j d (omega arith) (omega arith)

  -- what a search for an offset finds: the first n rows are before it, and the others aren't
  module _ (xs : List X) (at n : ℕ) (point : IsPartitionPoint (λ x. ltb (offset x) at ≡ true)
      (λ x. ltb (offset x) at ≡ false) xs n) where
    pub before_here : (d : X) (k : ℕ) → k < n → offset (get_or xs k d) ≢ at
    before_here d k lt = let less = ltb-true _ _ (point.0 k d (omega arith) lt) in λ e. absurd (omega arith)

    pub none_past : length xs ≤ n → IsNowhere offset xs at
    none_past past k d lt = before_here d k (omega arith)

    pub none_here : (x : X) → IsNonDecreasingBy offset xs → n < length xs → get_or xs n x ≡ x → offset x ≢ at
        → IsNowhere offset xs at
    none_here x up inside here differs k d lt = elim (cases_lt k n) [
      | inl less ↦ before_here d k less
      | inr ge ↦
          let from : at ≤ offset (get_or xs n x) = ltb-false _ _ (point.1 n x (omega arith) inside) in
          let more = up n k x ge lt in
          let same : get_or xs k d ≡ get_or xs k x = get_or_default xs k d x lt in
          λ e. differs (let is : offset (get_or xs n x) ≡ offset x = ap offset here in let as_x : offset (get_or xs k d)
          ≡ offset (get_or xs k x) = ap offset same in absurd (omega arith))
    ]

-- ---- procedure rows

-- the procedure rows of a module rise
procedures_rise : (code_len low : ℕ) (rows : List ProcedureRow)
    → InOrder (ProcedureKeeps code_len) behind_procedure low (map procedure_of rows)
    → Rise (λ row. row.entry) low rows
procedures_rise code_len low [] keeps = tt
procedures_rise code_len low (row ∷ rows) keeps =
    (keeps.0.rises, procedures_rise code_len row.entry rows keeps.1)

pub rows_rise : (code_len : ℕ) (rows : List ProcedureRow)
    → InOrder (ProcedureKeeps code_len) behind_procedure 0 (map procedure_of rows) → ProceduresRise rows
rows_rise code_len rows keeps =
    non_decreasing (λ row. row.entry) 0 rows (procedures_rise code_len 0 rows keeps)

-- no procedure begins where none is found
not_entered : (rows : List ProcedureRow) (at : ℕ) → IsNowhere (λ row. row.entry) rows at
    → list_any (λ p. p.entry == at) (map procedure_of rows) ≡ false
not_entered [] at all = refl
not_entered (row ∷ rows) at all =
    let differs : row.entry ≢ at = all 0 row (omega arith) in
    let other : eqb row.entry at ≡ false = grind (arith, nat_tests) in
    rw other (not_entered rows at (λ k d less. all (suc k) d (omega arith)))

-- one begins where a row is found
entered : (rows : List ProcedureRow) (n at : ℕ) (d : ProcedureRow) → n < length rows → (get_or rows n d).entry ≡ at
    → list_any (λ p. p.entry == at) (map procedure_of rows) ≡ true
entered [] n at d lt here = absurd (omega arith)
entered (row ∷ rows) zero at d lt here = let same : eqb row.entry at ≡ true = grind (arith, nat_tests) in rw same refl
entered (row ∷ rows) (suc n) at d lt here = rw (entered rows n at d (omega arith) here) (or-true (eqb row.entry at))

-- a procedure begins at an offset exactly where a search in the rows finds one
pub is_entered : {Y : Type 0} (row : Y → ProcedureRow) (rows : List ProcedureRow) (at : ℕ) (r : Option (ℕ × Y))
    → MatchOption r (IsNowhere (λ x. x.entry) rows at) (λ f. IsFirst (λ x. x.entry) rows at f.0 (row f.1))
    → is_some r ≡ list_any (λ p. p.entry == at) (map procedure_of rows)
is_entered row rows at None h = sym (not_entered rows at h)
is_entered row rows at (Some f) h =
    sym (entered rows f.0 at (row f.1) h.inside (sym (ap (λ (r : ProcedureRow). r.entry) h.is) ∙ h.here))
