-- Spans in normal form cover the places that pass the test.
use Rattle.std.proofs.Common.{◌≡◌, ℕ, zero, suc, ◌+◌, ◌<◌, ◌≤◌, Bool, true, false, cond, ◌⊎◌, inl, inr}
use Rattle.std.proofs.Common.{List, []}
use Rattle.std.proofs.Common.{◌∷◌, refl, sym, ap, ◌∙◌, arith, eqb-true}
use Rattle.std.proofs.lemmas.Bool.{cases_eq, leb-true, le-leb, ltb-true, lt-ltb, and_parts, and_from, or_cases, or_left}
use Rattle.std.specs.Prelude.{◌==◌}
use Rattle.std.specs.List.{list_any}
use Rattle.std.proofs.lemmas.Bool.{or_right}
use Rattle.small_laws.proofs.Connectives.{same_tests}
use Rattle.machine_state.specs.declared.holding.Span.{Span}
use Rattle.machine_state.specs.Holding.{covers}
use Rattle.machine_state.specs.Spans.{with_place, runs}
use Rattle.machine_state.specs.SpanLaws.{RunsCoverTheTest}

pub covers_tells : (s : Span) (q : ℕ) → covers s q ≡ true → (s.start ≤ q) × (q < s.end)
covers_tells s q h = let both = and_parts _ _ h in (leb-true s.start q both.0, ltb-true q s.end both.1)

pub covers_there : (s : Span) (q : ℕ) → s.start ≤ q → q < s.end → covers s q ≡ true
covers_there s q a b = and_from _ _ (le-leb s.start q a) (lt-ltb q s.end b)

abbrev pub among : List Span → ℕ → Bool
among spans q = list_any (λ span. covers span q) spans

-- none of them is empty
abbrev AllProper : List Span → Type 0
AllProper [] = Unit {0}
AllProper (s ∷ spans) = (s.start < s.end) × AllProper spans

with_place_proper : (p : ℕ) (spans : List Span) → AllProper spans → AllProper (with_place p spans)
with_place_proper p [] proper = (omega arith, tt)
with_place_proper p (s ∷ spans) proper = on (s.start == p + 1) refl
  where
    on : (b : Bool) → (s.start == p + 1) ≡ b → AllProper (cond b
        (record { start = p; end = s.end } ∷ spans) (record { start = p; end = p + 1 } ∷ s ∷ spans))
    on true e = let same : s.start ≡ p + 1 = eqb-true s.start (p + 1) e in (omega (arith, proper.0), proper.1)
    on false e = (omega arith, proper)

runs_proper : (test : ℕ → Bool) (p n : ℕ) → AllProper (runs test p n)
unfolding runs
runs_proper test p zero = tt
runs_proper test p (suc n) = on (runs_proper test (p + 1) n) (test p)
  where
    on : AllProper (runs test (p + 1) n) → (b : Bool)
        → AllProper (cond b (with_place p (runs test (p + 1) n)) (runs test (p + 1) n))
    on later true = with_place_proper p (runs test (p + 1) n) later
    on later false = later

with_place_tells : (p : ℕ) (spans : List Span) (q : ℕ) → among (with_place p spans) q ≡ true
    → (q ≡ p) ⊎ (among spans q ≡ true)
with_place_tells p [] q h = elim (or_cases _ false h) [
  | inl e ↦ let both = covers_tells (record { start = p; end = p + 1 }) q e in inl (omega (arith, both.0, both.1))
  | inr e ↦ absurd (cc)
]
with_place_tells p (s ∷ spans) q h = on (s.start == p + 1) refl h
  where
    on : (b : Bool) → (s.start == p + 1) ≡ b → among (cond b
        (record { start = p; end = s.end } ∷ spans) (record { start = p; end = p + 1 } ∷ s ∷ spans)) q ≡ true
        → (q ≡ p) ⊎ (among (s ∷ spans) q ≡ true)
    on true e h = elim (or_cases _ (among spans q) h) [
      | inl c ↦
          let both = covers_tells (record { start = p; end = s.end }) q c in
          let same : s.start ≡ p + 1 = eqb-true s.start (p + 1) e in
          elim (cases_eq q p) [
            | inl here ↦ inl here
            | inr other ↦ inr (or_left _ _ (covers_there s q (omega (arith, both.0)) both.1))
          ]
      | inr c ↦ inr (or_right (covers s q) _ c)
    ]
    on false e h = elim (or_cases _ (among (s ∷ spans) q) h) [
      | inl c ↦ let both = covers_tells (record { start = p; end = p + 1 }) q c in inl (omega (arith, both.0, both.1))
      | inr c ↦ inr c
    ]

with_place_has : (p : ℕ) (spans : List Span) (q : ℕ) → AllProper spans → (q ≡ p) ⊎ (among spans q ≡ true)
    → among (with_place p spans) q ≡ true
with_place_has p [] q proper (inl e) =
    or_left _ _ (covers_there (record { start = p; end = p + 1 }) q (omega arith) (omega arith))
with_place_has p [] q proper (inr h) = absurd (cc)
with_place_has p (s ∷ spans) q proper h = on (s.start == p + 1) refl
  where
    on : (b : Bool) → (s.start == p + 1) ≡ b → among (cond b
        (record { start = p; end = s.end } ∷ spans) (record { start = p; end = p + 1 } ∷ s ∷ spans)) q ≡ true
    on true e =
        let same : s.start ≡ p + 1 = eqb-true s.start (p + 1) e in
        elim h [
          | inl here ↦ or_left _ _
              (covers_there (record { start = p; end = s.end }) q (omega arith) (omega (arith, proper.0)))
          | inr there ↦ elim (or_cases (covers s q) _ there) [
            | inl c ↦
                let both = covers_tells s q c in
                or_left _ _ (covers_there (record { start = p; end = s.end }) q (omega (arith, both.0)) both.1)
            | inr c ↦ or_right _ _ c
          ]
        ]
    on false e = elim h [
      | inl here ↦ or_left _ _ (covers_there (record { start = p; end = p + 1 }) q (omega arith) (omega arith))
      | inr there ↦ or_right _ _ there
    ]

pub record IsIn (test : ℕ → Bool) (p n q : ℕ) : Type 0 where
  pub above : p ≤ q
  pub below : q < p + n
  pub passes : test q ≡ true

pub runs_tell : (test : ℕ → Bool) (p n q : ℕ) → among (runs test p n) q ≡ true → IsIn test p n q
unfolding runs
runs_tell test p zero q h = absurd (cc)
runs_tell test p (suc n) q h = on (runs_tell test (p + 1) n q) (test p) refl h
  where
    rest : IsIn test (p + 1) n q → IsIn test p (suc n) q
    rest later = record {
      above = (let a = later.above in omega arith);
      below = (let b = later.below in omega arith);
      passes = later.passes;
    }

    on : (among (runs test (p + 1) n) q ≡ true → IsIn test (p + 1) n q) → (b : Bool) → test p ≡ b
        → among (cond b (with_place p (runs test (p + 1) n)) (runs test (p + 1) n)) q ≡ true → IsIn test p (suc n) q
    on later true e h = elim (with_place_tells p (runs test (p + 1) n) q h) [
      | inl here ↦ record {
        above = omega arith;
        below = omega arith;
        passes = ap test here ∙ e;
      }
      | inr there ↦ rest (later there)
    ]
    on later false e h = rest (later h)

pub runs_have : (test : ℕ → Bool) (p n q : ℕ) → IsIn test p n q → among (runs test p n) q ≡ true
unfolding runs
runs_have test p zero q h = absurd (let a = h.above in let b = h.below in omega arith)
runs_have test p (suc n) q h = on (runs_have test (p + 1) n q) (test p) refl
  where
    further : (q ≡ p → ⊥) → IsIn test (p + 1) n q
    further other = record {
      above = (let a = h.above in omega arith);
      below = (let b = h.below in omega arith);
      passes = h.passes;
    }

    on : (IsIn test (p + 1) n q → among (runs test (p + 1) n) q ≡ true) → (b : Bool) → test p ≡ b
        → among (cond b (with_place p (runs test (p + 1) n)) (runs test (p + 1) n)) q ≡ true
    on later true e = with_place_has p (runs test (p + 1) n) q (runs_proper test (p + 1) n)
        (elim (cases_eq q p) [ inl here ↦ inl here | inr other ↦ inr (later (further other)) ])
    on later false e =
        later (further (λ here. let x : true ≡ false = sym h.passes ∙ (ap test here ∙ e) in cc))

pub runs_cover_the_test : RunsCoverTheTest
runs_cover_the_test test n place = same_tests _ _
    (λ h. let t = runs_tell test 0 n place h in and_from _ _ (lt-ltb place n (omega (arith, t.below))) t.passes)
    (λ h. let both = and_parts _ _ h in runs_have test 0 n place
    (record { above = omega arith; below = (let b = ltb-true place n both.0 in omega arith); passes = both.1 }))

pub ruleset normal_spans = (runs_cover_the_test)
