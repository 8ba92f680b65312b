-- Intervals that rise: which of them can have a word of another.
use Rattle.std.proofs.Common.{◌≡◌, ℕ, zero, suc, ◌<◌, ◌≤◌, ℤ, ◌≤ℤ◌, Bool, true, false, List, [], ◌∷◌, length, get_or}
use Rattle.std.proofs.Common.{refl, sym, subst, arith, inl, inr}
use Rattle.std.specs.Prelude.{◌<ℤ◌, int_lt, int_le}
use Rattle.std.specs.List.{list_any}
use Rattle.std.specs.List.Sorted.{IsPartitionPoint}
use Rattle.std.proofs.lemmas.Bool.{cases_lt}
use Rattle.std.proofs.Math.Bool.{or-true, and-false}
use Rattle.std.specs.Coded.{×_prop, Unit-prop}
use Rattle.std.proofs.Props.{props}
use Rattle.std.proofs.lemmas.Int.{ints}
use Rattle.small_laws.proofs.Comparisons.{int_lt-false, le-int_lt, int_le-false, int_le-true, le-int_le, lt-int_lt}
use Rattle.module_format.specs.declared.rows.Interval.{Interval}
use Rattle.module_format.specs.Order.{InOrder}
use Rattle.module_format.specs.Pars.{IntervalKeeps, behind_interval, intervals_meet}

-- there is one proof at most that intervals rise
pub intervals_prop : (low : ℤ) (is : List Interval) → IsProp (InOrder IntervalKeeps behind_interval low is)
intervals_prop low [] = Unit-prop
intervals_prop low (i ∷ is) = ×_prop (hlevel props) (intervals_prop (behind_interval low i) is)

module _ (d : Interval) where
  from_low : (low : ℤ) (ws : List Interval) (k : ℕ) → InOrder IntervalKeeps behind_interval low ws → k < length ws
      → low ≤ℤ (get_or ws k d).lo
  from_low low [] k h lt = absurd (omega arith)
  from_low low (w ∷ ws) zero h lt = h.0.apart
  from_low low (w ∷ ws) (suc k) h lt =
      let a = h.0.apart in
      let b = h.0.some in
      let c = from_low w.hi ws k h.1 (omega arith) in
      grind (arith, ints)

  some_at : (low : ℤ) (ws : List Interval) (k : ℕ) → InOrder IntervalKeeps behind_interval low ws → k < length ws
      → (get_or ws k d).lo <ℤ (get_or ws k d).hi
  some_at low [] k h lt = absurd (omega arith)
  some_at low (w ∷ ws) zero h lt = h.0.some
  some_at low (w ∷ ws) (suc k) h lt = some_at w.hi ws k h.1 (omega arith)

  rise_at : (low : ℤ) (ws : List Interval) (j k : ℕ) → InOrder IntervalKeeps behind_interval low ws → j < k
      → k < length ws → (get_or ws j d).hi ≤ℤ (get_or ws k d).lo
  rise_at low [] j k h lt inside = absurd (omega arith)
  rise_at low (w ∷ ws) j zero h lt inside = absurd (omega arith)
  rise_at low (w ∷ ws) zero (suc k) h lt inside = from_low w.hi ws k h.1 (omega arith)
  rise_at low (w ∷ ws) (suc j) (suc k) h lt inside = rise_at w.hi ws j k h.1 (omega arith) (omega arith)

  -- one that has a word is found
  pub found : (test : Interval → Bool) (ws : List Interval) (k : ℕ) → k < length ws → test (get_or ws k d) ≡ true
      → list_any test ws ≡ true
  found test [] k lt e = absurd (omega arith)
  found test (w ∷ ws) zero lt e = rw e refl
  found test (w ∷ ws) (suc k) lt e = rw (found test ws k (omega arith) e) (or-true (test w))

  not_found : (test : Interval → Bool) (ws : List Interval) → ((k : ℕ) → k < length ws → test (get_or ws k d) ≡ false)
      → list_any test ws ≡ false
  not_found test [] h = refl
  not_found test (w ∷ ws) h = rw (h 0 (omega arith)) (not_found test ws (λ k lt. h (suc k) (omega arith)))

  -- Where the first `n` intervals end at `i` or before it and the others don't, the one after them decides.
  module _ (i : Interval) where
    pub parted : (low : ℤ) (ws : List Interval) → InOrder IntervalKeeps behind_interval low ws → (j k : ℕ) → j ≤ k
        → k < length ws → int_le (get_or ws k d).hi i.lo ≡ true → int_le (get_or ws j d).hi i.lo ≡ true
    parted low ws h j k le inside e = elim (cases_lt j k) [
      | inl lt ↦
          let a = rise_at low ws j k h lt inside in
          let b = some_at low ws k h inside in
          let c = int_le-true (get_or ws k d).hi i.lo e in
          let le : (get_or ws j d).hi ≤ℤ i.lo = grind (arith, ints) in
          le-int_le (get_or ws j d).hi i.lo le
      | inr ge ↦
          let same : j ≡ k = omega arith in
          rw same e
    ]

    passed : (w : Interval) → int_le w.hi i.lo ≡ true → intervals_meet i w ≡ false
    passed w e = rw (le-int_lt i.lo w.hi (int_le-true w.hi i.lo e)) refl

    one_tells : (low : ℤ) (ws : List Interval) (n : ℕ) → InOrder IntervalKeeps behind_interval low ws
        → n < length ws
        → ((k : ℕ) → k < n → int_le (get_or ws k d).hi i.lo ≡ true) → int_le (get_or ws n d).hi i.lo ≡ false
        → int_lt (get_or ws n d).lo i.hi ≡ list_any (intervals_meet i) ws
    one_tells low ws n h inside before here =
        let w = get_or ws n d in
        let begins : int_lt i.lo w.hi ≡ true = lt-int_lt i.lo w.hi (int_le-false w.hi i.lo here) in
        elim (int_lt w.lo i.hi) as (λ b. int_lt w.lo i.hi ≡ b → b ≡ list_any (intervals_meet i) ws) [
          | true ↦ λ e. sym (found (intervals_meet i) ws n inside (rw (begins, e) refl))
          | false ↦ λ e. sym (not_found (intervals_meet i) ws (λ k lt. elim (cases_lt k n) [
            | inl less ↦ passed (get_or ws k d) (before k less)
            | inr ge ↦
                let behind : i.hi ≤ℤ (get_or ws k d).lo = elim (cases_lt n k) [
                  | inl less ↦
                      let a = rise_at low ws n k h less lt in
                      let b = some_at low ws n h inside in
                      let c = int_lt-false w.lo i.hi e in
                      grind (arith, ints)
                  | inr le ↦
                      let same : k ≡ n = omega arith in
                      rw same (int_lt-false w.lo i.hi e)
                ] in
                rw (le-int_lt (get_or ws k d).lo i.hi behind) (and-false (int_lt i.lo (get_or ws k d).hi))
          ]))
        ] refl

    pub first_tells : (low : ℤ) (ws : List Interval) (n : ℕ) → InOrder IntervalKeeps behind_interval low ws
        → IsPartitionPoint (λ (w : Interval). int_le w.hi i.lo ≡ true) (λ (w : Interval). int_le w.hi i.lo ≡ false) ws n
        → n < length ws → d ≡ get_or ws n d → int_lt d.lo i.hi ≡ list_any (intervals_meet i) ws
    first_tells low ws n h point inside is =
        subst (λ (w : Interval). int_lt w.lo i.hi ≡ list_any (intervals_meet i) ws) (sym is)
        (one_tells low ws n h inside (λ k lt. point.0 k d (omega arith) lt) (point.1 n d (omega arith) inside))

    pub none_tells : (ws : List Interval) → ((k : ℕ) → k < length ws → int_le (get_or ws k d).hi i.lo ≡ true)
        → false ≡ list_any (intervals_meet i) ws
    none_tells ws before = sym (not_found (intervals_meet i) ws (λ k lt. passed (get_or ws k d) (before k lt)))
