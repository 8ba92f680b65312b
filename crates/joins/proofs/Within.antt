-- All places of some stretches pass a test exactly where what they cover and the test does not is nothing.
use Rattle.std.proofs.Common.{◌≡◌, ℕ, zero, suc, ℤ, pos, negsuc, ◌+◌, ◌<◌, ◌≤◌, ◌&&◌, not, Bool, true, false, List}
use Rattle.std.proofs.Common.{[], ◌∷◌, length, inl, inr, refl, sym, ap, ◌∙◌, arith, int_le, ◌+ℤ◌}
use Rattle.std.proofs.lemmas.Bool.{leb-true, le-leb, lt-ltb, and_parts, and_from, or_left, or_right, or_cases}
use Rattle.std.proofs.lemmas.Bool.{true_from_ne_false, false_from_ne_true, cases_eq, eqb-true}
use Rattle.std.specs.Prelude.{nat_abs, nat_lt, ◌==◌}
use Rattle.std.specs.List.{list_any, list_all}
use Rattle.small_laws.proofs.Connectives.{same_tests}
use Rattle.machine_state.specs.declared.holding.Span.{Span}
use Rattle.machine_state.specs.Covering.{covered}
use Rattle.machine_state.specs.Spans.{Stretch, runs, lies_in, stretches_over, all_places, all_pass_within}
use Rattle.machine_state.proofs.NormalSpans.{is_runs}
use Rattle.machine_state.proofs.SpanLaws.{runs_cover_the_test}

-- ---- places one by one

pub all_at : (test : ℕ → Bool) (a n p : ℕ) → all_places test a n ≡ true → a ≤ p → p < a + n → test p ≡ true
unfolding all_places
all_at test a zero p h x y = absurd (omega arith)
all_at test a (suc n) p h x y =
    let both = and_parts (test a) (all_places test (a + 1) n) h in
    elim (cases_eq p a) [
      | inl here ↦ ap test here ∙ both.0
      | inr other ↦ all_at test (a + 1) n p both.1 (omega (arith, other)) (omega arith)
    ]

pub all_from : (test : ℕ → Bool) (a n : ℕ) → ((p : ℕ) → a ≤ p → p < a + n → test p ≡ true)
    → all_places test a n ≡ true
unfolding all_places
all_from test a zero each = refl
all_from test a (suc n) each = and_from (test a) (all_places test (a + 1) n)
    (each a (omega arith) (omega arith))
    (all_from test (a + 1) n (λ p x y. each p (omega arith) (omega arith)))

-- a stretch that lies in memory is over the places from its start on
over_tells : (n p : ℕ) (s : Stretch) → lies_in n s ≡ true → stretches_over s p ≡ true
    → (nat_abs s.start ≤ p) × (p < nat_abs s.start + s.size) × (p < n)
over_tells n p s lies over = on s.start (and_parts _ _ lies) (and_parts _ _ over)
  where
    on : (start : ℤ) → (int_le (pos 0) start ≡ true) × (int_le (start +ℤ pos s.size) (pos n) ≡ true)
        → (int_le start (pos p) ≡ true) × (int_le (pos (p + 1)) (start +ℤ pos s.size) ≡ true)
        → (nat_abs start ≤ p) × (p < nat_abs start + s.size) × (p < n)
    on (pos a) l o =
        let x = leb-true (a + s.size) n l.1 in
        let y = leb-true a p o.0 in
        let z = leb-true (p + 1) (a + s.size) o.1 in
        (y, omega (arith, z), omega (arith, x, z))
    on (negsuc a) l o = absurd (let e = l.0 in cc)

over_there : (n p : ℕ) (s : Stretch) → lies_in n s ≡ true → nat_abs s.start ≤ p → p < nat_abs s.start + s.size
    → (stretches_over s p ≡ true) × (p < n)
over_there n p s lies x y = on s.start (and_parts _ _ lies) x y
  where
    on : (start : ℤ) → (int_le (pos 0) start ≡ true) × (int_le (start +ℤ pos s.size) (pos n) ≡ true)
        → nat_abs start ≤ p → p < nat_abs start + s.size
        → ((int_le start (pos p) && int_le (pos (p + 1)) (start +ℤ pos s.size)) ≡ true) × (p < n)
    on (pos a) l x y = (
      and_from _ _ (le-leb a p x) (le-leb (p + 1) (a + s.size) (omega (arith, y))),
      (let z = leb-true (a + s.size) n l.1 in omega (arith, y, z)),
    )
    on (negsuc a) l x y = absurd (let e = l.0 in cc)

-- ---- all of some stretches

abbrev pub over : List Stretch → ℕ → Bool
over stretches p = list_any (λ s. stretches_over s p) stretches

module _ (n : ℕ) (test : ℕ → Bool) where
  each_within : (stretches : List Stretch) → list_all (lies_in n) stretches ≡ true
      → ((p : ℕ) → p < n → over stretches p ≡ true → test p ≡ true) → list_all (all_pass_within n test) stretches ≡ true
  each_within [] lie passes = refl
  each_within (s ∷ stretches) lie passes =
      let both = and_parts (lies_in n s) (list_all (lies_in n) stretches) lie in
      and_from (all_pass_within n test s) (list_all (all_pass_within n test) stretches)
      (and_from (lies_in n s) (all_places test (nat_abs s.start) s.size) both.0
      (all_from test (nat_abs s.start) s.size (λ p x y.
      let o = over_there n p s both.0 x y in
      passes p o.1 (or_left (stretches_over s p) (over stretches p) o.0))))
      (each_within stretches both.1 (λ p x y. passes p x (or_right (stretches_over s p) (over stretches p) y)))

  within_lie : (stretches : List Stretch) → list_all (all_pass_within n test) stretches ≡ true
      → list_all (lies_in n) stretches ≡ true
  within_lie [] within = refl
  within_lie (s ∷ stretches) within =
      let both = and_parts (all_pass_within n test s) (list_all (all_pass_within n test) stretches) within in
      and_from (lies_in n s) (list_all (lies_in n) stretches) (and_parts _ _ both.0).0 (within_lie stretches both.1)

  within_pass : (stretches : List Stretch) → list_all (all_pass_within n test) stretches ≡ true → (p : ℕ)
      → over stretches p ≡ true → test p ≡ true
  within_pass [] within p o = absurd (cc)
  within_pass (s ∷ stretches) within p o =
      let both = and_parts (all_pass_within n test s) (list_all (all_pass_within n test) stretches) within in
      let here = and_parts (lies_in n s) (all_places test (nat_abs s.start) s.size) both.0 in
      elim (or_cases (stretches_over s p) (over stretches p) o) [
        | inl k ↦
            let t = over_tells n p s here.0 k in
            all_at test (nat_abs s.start) s.size p here.1 t.0 t.1
        | inr k ↦ within_pass stretches both.1 p k
      ]

  -- what they cover and the test does not
  abbrev missing : List Stretch → List Span
  missing stretches = runs (λ p. over stretches p && not (test p)) 0 n

  nothing_missing : (stretches : List Stretch) → list_all (all_pass_within n test) stretches ≡ true
      → missing stretches ≡ []
  nothing_missing stretches within =
      sym (is_runs (λ p. over stretches p && not (test p)) n 0 [] tt (λ p. none p (over stretches p) refl))
    where
      none : (p : ℕ) (b : Bool) → over stretches p ≡ b → false ≡ (nat_lt p n && (over stretches p && not (test p)))
      none p true e =
          let passes : test p ≡ true = within_pass stretches within p e in
          sym (ap (λ (b : Bool). nat_lt p n && (over stretches p && not b)) passes
          ∙ off (nat_lt p n) (over stretches p))
        where
          off : (x y : Bool) → (x && (y && not true)) ≡ false
          off true true = refl
          off true false = refl
          off false y = refl
      none p false e = sym (ap (λ (b : Bool). nat_lt p n && (b && not (test p))) e ∙ off (nat_lt p n))
        where
          off : (x : Bool) → (x && false) ≡ false
          off true = refl
          off false = refl

  nothing_left : (stretches : List Stretch) → missing stretches ≡ [] → (p : ℕ) → p < n
      → over stretches p ≡ true → test p ≡ true
  nothing_left stretches h p x o = true_from_ne_false (test p) (λ e.
      let there : (nat_lt p n && (over stretches p && not (test p))) ≡ true =
      and_from _ _ (lt-ltb p n x) (and_from _ _ o (ap not e)) in
      let here : covered (missing stretches) p ≡ true = runs_cover_the_test _ n p ∙ there in
      let k : false ≡ true = sym (ap (λ (l : List Span). covered l p) h) ∙ here in
      cc)

  pub all_within : (stretches : List Stretch) (b : Bool) → list_all (lies_in n) stretches ≡ true
      → b ≡ (length (missing stretches) == 0) → b ≡ list_all (all_pass_within n test) stretches
  all_within stretches b lie e = e ∙ same_tests _ _
      (λ h. each_within stretches lie (nothing_left stretches (empty (missing stretches) h)))
      (λ h. ap (λ (l : List Span). length l == 0) (nothing_missing stretches h))
    where
      empty : (l : List Span) → (length l == 0) ≡ true → l ≡ []
      empty [] h = refl
      empty (s ∷ l) h = absurd (let e = eqb-true (length (s ∷ l)) 0 h in omega (arith, e))

  pub not_all_lie : (stretches : List Stretch) → list_all (lies_in n) stretches ≡ false
      → false ≡ list_all (all_pass_within n test) stretches
  not_all_lie stretches h = sym (false_from_ne_true (list_all (all_pass_within n test) stretches) (λ e.
      let k : true ≡ false = sym (within_lie stretches e) ∙ h in cc))

-- a test may be said in another way
same_places : (f g : ℕ → Bool) → ((p : ℕ) → f p ≡ g p) → (a k : ℕ) → all_places f a k ≡ all_places g a k
unfolding all_places
same_places f g same a zero = refl
same_places f g same a (suc k) =
    ap (λ (b : Bool). b && all_places f (a + 1) k) (same a)
    ∙ ap (λ (b : Bool). g a && b) (same_places f g same (a + 1) k)

pub same_within : (n : ℕ) (f g : ℕ → Bool) → ((p : ℕ) → f p ≡ g p) → (stretches : List Stretch)
    → list_all (all_pass_within n f) stretches ≡ list_all (all_pass_within n g) stretches
same_within n f g same [] = refl
same_within n f g same (s ∷ stretches) =
    ap (λ (b : Bool). (lies_in n s && b) && list_all (all_pass_within n f) stretches)
    (same_places f g same (nat_abs s.start) s.size)
    ∙ ap (λ (b : Bool). all_pass_within n g s && b) (same_within n f g same stretches)
