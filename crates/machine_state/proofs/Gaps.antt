-- The places between spans that begin one after the other, whatever overlaps: what no span covers, in normal form.
use Rattle.std.proofs.Common.{◌≡◌, ℕ, suc, ◌+◌, ◌<◌, ◌≤◌, ◌&&◌, ◌||◌, not, Bool, true, false, cond, List, [], ◌∷◌, ◌++◌}
use Rattle.std.proofs.Common.{refl, sym, ap, ◌∙◌, arith, inl, inr, max, length, get_or, add-one}
use Rattle.std.proofs.lemmas.Bool.{cases_lt, ltb-true, ltb-false, lt-ltb, or_cases, or_left, or_right}
use Rattle.std.proofs.lemmas.Bool.{and_parts, and_cases, or_parts, or_from, not_from_false, false_from_ne_true}
use Rattle.std.proofs.lemmas.List.Folds.{list_any-append}
use Rattle.std.proofs.lemmas.List.Sorted.{all_adjacent_from_non_decreasing, list_any-IsPermutation}
use Rattle.std.specs.List.Sorted.{IsNonDecreasingBy, IsPermutation}
use Rattle.std.specs.Prelude.{nat_lt, if◌then◌else◌}
use Rattle.small_laws.proofs.Connectives.{same_tests}
use Rattle.machine_state.specs.declared.holding.Span.{Span}
use Rattle.machine_state.specs.Holding.{covers}
use Rattle.machine_state.specs.Covering.{covered, piece}
use Rattle.machine_state.specs.Spans.{runs}
use Rattle.machine_state.proofs.NormalSpans.{Rise, is_runs, same_runs}
use Rattle.machine_state.proofs.SpanLaws.{covers_tells, covers_there, runs_cover_the_test}

-- what is left of the places from one on, up to the last
abbrev pub gaps_from : ℕ → ℕ → List Span → List Span
gaps_from last from [] = piece from last
gaps_from last from (s ∷ spans) =
    if nat_lt s.start s.end && nat_lt s.start last
    then piece from s.start ++ gaps_from last (max from s.end) spans
    else gaps_from last from spans

-- spans that begin one after the other, none before c
abbrev pub Follow : ℕ → List Span → Type 0
Follow c [] = Unit {0}
Follow c (s ∷ spans) = (c ≤ s.start) × Follow s.start spans

-- ---- a piece

piece_tells : (a b q : ℕ) → covered (piece a b) q ≡ true → (a ≤ q) × (q < b)
piece_tells a b q h = on (nat_lt a b) h
  where
    on : (t : Bool) → covered (cond t (record { start = a; end = b } ∷ []) []) q ≡ true → (a ≤ q) × (q < b)
    on true h = elim (or_cases (covers (record { start = a; end = b }) q) false h) [
      | inl here ↦ covers_tells (record { start = a; end = b }) q here
      | inr e ↦ absurd (cc)
    ]
    on false h = absurd (cc)

piece_has : (a b q : ℕ) → a ≤ q → q < b → covered (piece a b) q ≡ true
piece_has a b q h k = on (nat_lt a b) (lt-ltb a b (omega arith))
  where
    on : (t : Bool) → t ≡ true → covered (cond t (record { start = a; end = b } ∷ []) []) q ≡ true
    on true e = or_left (covers (record { start = a; end = b }) q) false
        (covers_there (record { start = a; end = b }) q h k)
    on false e = absurd (cc)

piece_rises : (p a b : ℕ) (spans : List Span) → p ≤ a → (a < b → Rise (b + 1) spans) → Rise p spans
    → Rise p (piece a b ++ spans)
piece_rises p a b spans h later same = on (nat_lt a b) refl
  where
    on : (t : Bool) → nat_lt a b ≡ t → Rise p (cond t (record { start = a; end = b } ∷ []) [] ++ spans)
    on true e = let less : a < b = ltb-true a b e in (h, less, later less)
    on false e = same

-- ---- the gaps

gaps_rise : (p last from : ℕ) (spans : List Span) → p ≤ from → Rise p (gaps_from last from spans)
gaps_rise p last from [] h = on (nat_lt from last) refl
  where
    on : (t : Bool) → nat_lt from last ≡ t → Rise p (cond t (record { start = from; end = last } ∷ []) [])
    on true e = (h, ltb-true from last e, tt)
    on false e = tt
gaps_rise p last from (s ∷ spans) h =
    on (gaps_rise (s.start + 1) last (max from s.end) spans) (gaps_rise p last (max from s.end) spans (omega arith))
    (gaps_rise p last from spans h) (nat_lt s.start s.end && nat_lt s.start last) refl
  where
    on : (s.start + 1 ≤ max from s.end → Rise (s.start + 1) (gaps_from last (max from s.end) spans))
        → Rise p (gaps_from last (max from s.end) spans) → Rise p (gaps_from last from spans)
        → (t : Bool) → (nat_lt s.start s.end && nat_lt s.start last) ≡ t → Rise p (cond t
        (piece from s.start ++ gaps_from last (max from s.end) spans) (gaps_from last from spans))
    on far near other true e =
        let proper : s.start < s.end = ltb-true s.start s.end (and_parts _ _ e).0 in
        piece_rises p from s.start (gaps_from last (max from s.end) spans) h (λ less. far (omega arith)) near
    on far near other false e = other

-- before the first of them nothing is covered
none_before : (c : ℕ) (spans : List Span) (q : ℕ) → Follow c spans → q < c → covered spans q ≡ false
none_before c [] q follow h = refl
none_before c (s ∷ spans) q follow h = or_from (covers s q) (covered spans q)
    (false_from_ne_true (covers s q) (λ e. let t = covers_tells s q e in omega (arith, t.0, follow.0)))
    (none_before s.start spans q follow.1 (omega (arith, follow.0)))

record IsGap (last from : ℕ) (spans : List Span) (q : ℕ) : Type 0 where
  above : from ≤ q
  below : q < last
  open_there : covered spans q ≡ false

gaps_tell : (c last from : ℕ) (spans : List Span) (q : ℕ) → Follow c spans
    → covered (gaps_from last from spans) q ≡ true → IsGap last from spans q
gaps_tell c last from [] q follow h =
    let t = piece_tells from last q h in record { above = t.0; below = t.1; open_there = refl }
gaps_tell c last from (s ∷ spans) q follow h =
    on (gaps_tell s.start last (max from s.end) spans q follow.1) (gaps_tell s.start last from spans q follow.1)
    (nat_lt s.start s.end && nat_lt s.start last) refl h
  where
    on : (covered (gaps_from last (max from s.end) spans) q ≡ true → IsGap last (max from s.end) spans q)
        → (covered (gaps_from last from spans) q ≡ true → IsGap last from spans q)
        → (t : Bool) → (nat_lt s.start s.end && nat_lt s.start last) ≡ t → covered (cond t
        (piece from s.start ++ gaps_from last (max from s.end) spans) (gaps_from last from spans)) q ≡ true
        → IsGap last from (s ∷ spans) q
    on taken other true e h =
        let inside : s.start < last = ltb-true s.start last (and_parts _ _ e).1 in
        elim (or_cases (covered (piece from s.start) q) (covered (gaps_from last (max from s.end) spans) q)
        (sym (list_any-append (λ (x : Span). covers x q) (piece from s.start)
        (gaps_from last (max from s.end) spans)) ∙ h)) [
          | inl here ↦
              let t = piece_tells from s.start q here in
              record {
                above = t.0;
                below = omega (arith, t.1);
                open_there = or_from (covers s q) (covered spans q)
                    (false_from_ne_true (covers s q) (λ k. let u = covers_tells s q k in omega (arith, t.1, u.0)))
                    (none_before s.start spans q follow.1 t.1);
              }
          | inr there ↦
              let g = taken there in
              record {
                above = (let a = g.above in omega arith);
                below = g.below;
                open_there = or_from (covers s q) (covered spans q)
                    (false_from_ne_true (covers s q) (λ k. let u = covers_tells s q k in
                    let a = g.above in omega (arith, u.1))) g.open_there;
              }
        ]
    on taken other false e h =
        let g = other h in
        record {
          above = g.above;
          below = g.below;
          open_there = or_from (covers s q) (covered spans q)
              (false_from_ne_true (covers s q) (λ k. let u = covers_tells s q k in let b = g.below in
              elim (and_cases (nat_lt s.start s.end) (nat_lt s.start last) e) [
                | inl empty ↦ omega (arith, u.0, u.1, ltb-false s.start s.end empty)
                | inr outside ↦ omega (arith, u.0, ltb-false s.start last outside)
              ])) g.open_there;
        }

gaps_have : (last from : ℕ) (spans : List Span) (q : ℕ) → IsGap last from spans q
    → covered (gaps_from last from spans) q ≡ true
gaps_have last from [] q g = piece_has from last q g.above g.below
gaps_have last from (s ∷ spans) q g =
    on (gaps_have last (max from s.end) spans q) (gaps_have last from spans q)
    (nat_lt s.start s.end && nat_lt s.start last) refl
  where
    parts : (covers s q ≡ false) × (covered spans q ≡ false)
    parts = or_parts (covers s q) (covered spans q) g.open_there

    on : (IsGap last (max from s.end) spans q → covered (gaps_from last (max from s.end) spans) q ≡ true)
        → (IsGap last from spans q → covered (gaps_from last from spans) q ≡ true)
        → (t : Bool) → (nat_lt s.start s.end && nat_lt s.start last) ≡ t → covered (cond t
        (piece from s.start ++ gaps_from last (max from s.end) spans) (gaps_from last from spans)) q ≡ true
    on taken other true e =
        list_any-append (λ (x : Span). covers x q) (piece from s.start) (gaps_from last (max from s.end) spans)
        ∙ elim (cases_lt q s.start) [
          | inl before ↦ or_left (covered (piece from s.start) q) _ (piece_has from s.start q g.above before)
          | inr after ↦ or_right (covered (piece from s.start) q) _ (taken (record {
            above = elim (cases_lt q s.end) [
              | inl inside ↦ absurd (let k : true ≡ false = sym (covers_there s q after inside) ∙ parts.0 in cc)
              | inr beyond ↦ let a = g.above in omega arith
            ];
            below = g.below;
            open_there = parts.1;
          }))
        ]
    on taken other false e = other (record { above = g.above; below = g.below; open_there = parts.1 })

-- ---- what is left is what no span covers

record Steps (spans : List Span) : Type 0 where
  on : (k : ℕ) (d : Span) → suc k < length spans → (get_or spans k d).start ≤ (get_or spans (suc k) d).start

follow_from : (c : ℕ) (spans : List Span) → Steps spans
    → ((d : Span) → 0 < length spans → c ≤ (get_or spans 0 d).start) → Follow c spans
follow_from c [] steps first = tt
follow_from c (s ∷ spans) steps first = (
  first s (omega arith),
  follow_from s.start spans (record { on = λ k d h. steps.on (suc k) d (omega arith) })
      (λ d h. steps.on 0 d (omega arith)),
)

steps_from : (spans : List Span) → IsNonDecreasingBy (λ (s : Span). s.start) spans → Steps spans
steps_from spans sorted =
    let adjacent = all_adjacent_from_non_decreasing (λ (s : Span). s.start) spans sorted in
    record { on = λ k d h. rw add-one at (adjacent k d (omega arith)) }

open_place : (last : ℕ) (spans : List Span) (q : ℕ) → Follow 0 spans
    → covered (gaps_from last 0 spans) q ≡ (nat_lt q last && not (covered spans q))
open_place last spans q follow = same_tests _ _
    (λ h. let g = gaps_tell 0 last 0 spans q follow h in
    let b = g.below in both _ _ (lt-ltb q last b) (not_from_false (covered spans q) g.open_there))
    (λ h. let parts = and_parts (nat_lt q last) (not (covered spans q)) h in
    gaps_have last 0 spans q (record {
      above = omega arith;
      below = ltb-true q last parts.0;
      open_there = opened (covered spans q) parts.1;
    }))
  where
    both : (a b : Bool) → a ≡ true → b ≡ true → (a && b) ≡ true
    both true b p q = q
    both false b p q = p

    opened : (b : Bool) → not b ≡ true → b ≡ false
    opened true h = absurd (cc)
    opened false h = refl

pub gaps_are_runs : (last : ℕ) (spans : List Span) → IsNonDecreasingBy (λ (s : Span). s.start) spans
    → gaps_from last 0 spans ≡ runs (λ q. not (covered spans q)) 0 last
gaps_are_runs last spans sorted =
    let follow = follow_from 0 spans (steps_from spans sorted) (λ d h. omega arith) in
    is_runs (λ q. not (covered spans q)) last 0 (gaps_from last 0 spans)
    (gaps_rise 0 last 0 spans (omega arith)) (λ q. open_place last spans q follow)

-- ---- what some cover and others do not

-- to leave what neither the gaps of some nor the others cover
pub twice_left : (last : ℕ) (spans others : List Span) → runs
    (λ q. not (covered (runs (λ q. not (covered spans q)) 0 last ++ others) q)) 0 last
    ≡ runs (λ q. covered spans q && not (covered others q)) 0 last
twice_left last spans others = same_runs _ _ last (λ q h. at q h)
  where
    left : (b x y : Bool) → b ≡ true → not ((b && not x) || y) ≡ (x && not y)
    left true true true e = refl
    left true true false e = refl
    left true false true e = refl
    left true false false e = refl
    left false x y e = absurd (cc)

    at : (q : ℕ) → q < last → not (covered (runs (λ q. not (covered spans q)) 0 last ++ others) q)
        ≡ (covered spans q && not (covered others q))
    at q h =
        ap not (list_any-append (λ (x : Span). covers x q) (runs (λ q. not (covered spans q)) 0 last) others
        ∙ ap (λ (x : Bool). x || covered others q) (runs_cover_the_test (λ q. not (covered spans q)) last q))
        ∙ left (nat_lt q last) (covered spans q) (covered others q) (lt-ltb q last h)

-- the gaps of spans are those of the same spans in order
pub gaps_of_sorted : (last : ℕ) (spans sorted seen : List Span) → IsPermutation spans sorted → seen ≡ sorted
    → runs (λ q. not (covered seen q)) 0 last ≡ runs (λ q. not (covered spans q)) 0 last
gaps_of_sorted last spans sorted seen moved same = same_runs _ _ last (λ q h.
    ap (λ (l : List Span). not (covered l q)) same
    ∙ ap not (sym (list_any-IsPermutation (λ (x : Span). covers x q) spans sorted moved)))
