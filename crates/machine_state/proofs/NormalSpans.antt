-- Spans that rise with a gap between any two are those of the places that they cover: the normal form is one.
use Rattle.std.proofs.Common.{◌≡◌, ℕ, zero, suc, ◌+◌, ◌<◌, ◌≤◌, ◌&&◌, Bool, true, false, cond, List, [], ◌∷◌, refl}
use Rattle.std.proofs.Common.{◌||◌, sym, ap, ◌∙◌, subst, arith, inl, inr}
use Rattle.std.proofs.lemmas.Bool.{cases_order, ltb-true, or_cases, or_left, cases_Bool, eqb-false}
use Rattle.std.specs.Prelude.{◌==◌, nat_lt}
use Rattle.machine_state.specs.declared.holding.Span.{Span}
use Rattle.machine_state.specs.Holding.{covers}
use Rattle.machine_state.specs.Spans.{with_place, runs}
use Rattle.machine_state.specs.Covering.{covered}
use Rattle.machine_state.proofs.SpanLaws.{covers_tells, covers_there, runs_cover_the_test}

-- from this place on, none of them empty, with a gap between any two
abbrev pub Rise : ℕ → List Span → Type 0
Rise p [] = Unit {0}
Rise p (s ∷ spans) = (p ≤ s.start) × (s.start < s.end) × Rise (s.end + 1) spans

pub rise_from : (p q : ℕ) (spans : List Span) → q ≤ p → Rise p spans → Rise q spans
rise_from p q [] h rise = tt
rise_from p q (s ∷ spans) h rise = (let a = rise.0 in omega arith, rise.1, rise.2)

-- what they cover lies there
rise_above : (p : ℕ) (spans : List Span) (q : ℕ) → Rise p spans → covered spans q ≡ true → p ≤ q
rise_above p [] q rise h = absurd (cc)
rise_above p (s ∷ spans) q rise h = elim (or_cases (covers s q) (covered spans q) h) [
  | inl here ↦ let t = covers_tells s q here in omega (arith, rise.0, t.0)
  | inr there ↦ let t = rise_above (s.end + 1) spans q rise.2 there in omega (arith, rise.0, rise.1, t)
]

-- ---- two such lists that cover the same are one

record Same (a b : List Span) : Type 0 where
  on : (q : ℕ) → covered a q ≡ covered b q

-- the first place of one is not before the first of the other
first_not_before : (p r : ℕ) (s t : Span) (a b : List Span) → Rise p (s ∷ a) → Rise r (t ∷ b) → Same (s ∷ a) (t ∷ b)
    → t.start ≤ s.start
first_not_before p r s t a b x y same =
    let here : covered (s ∷ a) s.start ≡ true =
    or_left (covers s s.start) (covered a s.start) (covers_there s s.start (omega arith) x.1) in
    rise_above t.start (t ∷ b) s.start (omega arith, y.1, y.2) (sym (same.on s.start) ∙ here)

-- nor does one end before the other, where they begin together
end_not_before : (p r : ℕ) (s t : Span) (a b : List Span) → Rise p (s ∷ a) → Rise r (t ∷ b) → Same (s ∷ a) (t ∷ b)
    → s.start ≡ t.start → s.end < t.end → ⊥
end_not_before p r s t a b x y same begin h =
    let there : covered (t ∷ b) s.end ≡ true =
    or_left (covers t s.end) (covered b s.end) (covers_there t s.end (omega (arith, x.1)) h) in
    elim (or_cases (covers s s.end) (covered a s.end) (same.on s.end ∙ there)) [
      | inl here ↦ let c = covers_tells s s.end here in omega (arith, c.1)
      | inr later ↦ let c = rise_above (s.end + 1) a s.end x.2 later in omega (arith, c)
    ]

same_sym : (a b : List Span) → Same a b → Same b a
same_sym a b same = record { on = λ q. sym (same.on q) }

-- what rises after an end is not before it
rest_below : (s : Span) (a : List Span) (q : ℕ) → Rise (s.end + 1) a → covers s q ≡ true → covered a q ≡ false
rest_below s a q rise here = elim (cases_Bool (covered a q)) [
  | inl later ↦
      absurd (let c = rise_above (s.end + 1) a q rise later in
      let d = covers_tells s q here in omega (arith, c, d.1))
  | inr other ↦ other
]

-- without a span that does not cover the place
past : (s : Span) (spans : List Span) (q : ℕ) → covers s q ≡ false → covered (s ∷ spans) q ≡ covered spans q
past s spans q e = ap (λ (x : Bool). x || covered spans q) e

same_rest : (s : Span) (a b : List Span) → Rise (s.end + 1) a → Rise (s.end + 1) b → Same (s ∷ a) (s ∷ b) → Same a b
same_rest s a b x y same = record { on = λ q. on q (covers s q) refl }
  where
    on : (q : ℕ) (c : Bool) → covers s q ≡ c → covered a q ≡ covered b q
    on q true e = rest_below s a q x e ∙ sym (rest_below s b q y e)
    on q false e = sym (past s a q e) ∙ (same.on q ∙ past s b q e)

nothing_same : (p : ℕ) (s : Span) (a : List Span) → Rise p (s ∷ a) → Same (s ∷ a) [] → ⊥
nothing_same p s a x same =
    let here : covered (s ∷ a) s.start ≡ true =
    or_left (covers s s.start) (covered a s.start) (covers_there s s.start (omega arith) x.1) in
    let e : true ≡ false = sym here ∙ same.on s.start in cc

span_same : (s t : Span) → s.start ≡ t.start → s.end ≡ t.end → s ≡ t
span_same s t p q =
    let one : s ≡ record s { start = t.start } = ap (λ (x : ℕ). record s { start = x }) p in
    one ∙ ap (λ (x : ℕ). record { start = t.start; end = x }) q

one_form : (p r : ℕ) (a b : List Span) → Rise p a → Rise r b → Same a b → a ≡ b
one_form p r [] [] x y same = refl
one_form p r [] (t ∷ b) x y same = absurd (nothing_same r t b y (same_sym [] (t ∷ b) same))
one_form p r (s ∷ a) [] x y same = absurd (nothing_same p s a x same)
one_form p r (s ∷ a) (t ∷ b) x y same =
    let back = same_sym (s ∷ a) (t ∷ b) same in
    let below : t.start ≤ s.start = first_not_before p r s t a b x y same in
    let above : s.start ≤ t.start = first_not_before r p t s b a y x back in
    let begin : s.start ≡ t.start = omega arith in
    let end : s.end ≡ t.end = elim (cases_order s.end t.end) [
      | inl e ↦ e
      | inr e ↦ elim e [
        | inl below ↦ absurd (end_not_before p r s t a b x y same begin below)
        | inr above ↦ absurd (end_not_before r p t s b a y x back (sym begin) above)
      ]
    ] in
    let one : s ≡ t = span_same s t begin end in
    let later : Rise (s.end + 1) b = subst (λ (x : ℕ). Rise (x + 1) b) (sym end) y.2 in
    let alike : Same (s ∷ a) (s ∷ b) = subst (λ (x : Span). Same (s ∷ a) (x ∷ b)) (sym one) same in
    let rest : a ≡ b =
    one_form (s.end + 1) (s.end + 1) a b x.2 later (same_rest s a b x.2 later alike) in
    ap (λ (l : List Span). s ∷ l) rest ∙ ap (λ (x : Span). x ∷ b) one

-- ---- and `runs` is such a list

with_place_rises : (p : ℕ) (spans : List Span) → Rise (p + 1) spans → Rise p (with_place p spans)
with_place_rises p [] rise = (omega arith, omega arith, tt)
with_place_rises p (s ∷ spans) rise = on (s.start == p + 1) refl
  where
    on : (b : Bool) → (s.start == p + 1) ≡ b → Rise p (cond b
        (record { start = p; end = s.end } ∷ spans) (record { start = p; end = p + 1 } ∷ s ∷ spans))
    on true e = (omega arith, omega (arith, rise.0, rise.1), rise.2)
    on false e = (
      omega arith,
      omega arith,
      (
        let other : (s.start ≡ p + 1) → ⊥ = eqb-false s.start (p + 1) e in
            elim (cases_order s.start (p + 1 + 1)) [
              | inl same ↦ omega (arith, same)
              | inr far ↦ elim far [
                | inl below ↦ absurd (other (omega (arith, rise.0, below)))
                | inr above ↦ omega (arith, above)
              ]
            ],
        rise.1,
        rise.2,
      ),
    )

runs_rise : (test : ℕ → Bool) (p n : ℕ) → Rise p (runs test p n)
unfolding runs
runs_rise test p zero = tt
runs_rise test p (suc n) = on (runs_rise test (p + 1) n) (test p)
  where
    on : Rise (p + 1) (runs test (p + 1) n) → (b : Bool)
        → Rise p (cond b (with_place p (runs test (p + 1) n)) (runs test (p + 1) n))
    on later true = with_place_rises p (runs test (p + 1) n) later
    on later false = rise_from (p + 1) p (runs test (p + 1) n) (omega arith) later

-- the law: spans that rise, and cover each place below n that passes the test and no other, are these
pub is_runs : (test : ℕ → Bool) (n p : ℕ) (spans : List Span) → Rise p spans
    → ((q : ℕ) → covered spans q ≡ (nat_lt q n && test q)) → spans ≡ runs test 0 n
is_runs test n p spans rise covering =
    one_form p 0 spans (runs test 0 n) rise (runs_rise test 0 n)
    (record { on = λ q. covering q ∙ sym (runs_cover_the_test test n q) })

-- tests that agree on n places from p on have the same runs
pub same_runs : (f g : ℕ → Bool) (n : ℕ) → ((q : ℕ) → q < n → f q ≡ g q) → runs f 0 n ≡ runs g 0 n
same_runs f g n same = is_runs g n 0 (runs f 0 n) (runs_rise f 0 n)
    (λ q. runs_cover_the_test f n q ∙ on q (nat_lt q n) refl)
  where
    on : (q : ℕ) (b : Bool) → nat_lt q n ≡ b → (nat_lt q n && f q) ≡ (nat_lt q n && g q)
    on q true e = ap (λ (x : Bool). nat_lt q n && x) (same q (ltb-true q n e))
    on q false e = rw e refl
