-- What a condition shows of a word holds of it, if the condition had that result.
use Rattle.std.proofs.Common.{◌≡◌, ◌≢◌, zero, suc, ◌≤◌, ℕ, ℤ, pos, ◌+ℤ◌, neg_ℤ, ◌*◌, Bool, true, false, not, cond}
use Rattle.std.proofs.Common.{◌&&◌, inl, inr, Option, Some, None, refl, sym, ap, ◌∙◌, subst, arith}
use Rattle.std.specs.Prelude.{int_le}
use Rattle.word_arithmetic.specs.Word.{truth}
use Rattle.word_arithmetic.specs.Range.{Ends, in_range, range_between, left_by}
use Rattle.word_arithmetic.proofs.EndsLaws.{words_in_order_are_ranges}
use Rattle.word_arithmetic.proofs.TestLaws.{left_narrows}
use Rattle.module_format.specs.Rows.{Fact}
use Rattle.module_format.specs.declared.fact.Fact.TheVariants.{Unknown, Number, Pointer, CodeAddress, Loop}
use Rattle.module_format.specs.declared.fact.Fact.TheVariants.{ReturnAddress}
use Rattle.module_format.specs.Contents.{Contents}
use Rattle.machine_state.specs.Memory.{Memory}
use Rattle.states.specs.declared.known.WordFact.{WordFact}
use Rattle.states.specs.declared.known.WordFact.TheVariants.{Alone, Index, Count}
use Rattle.states.specs.declared.known.Source.{Source}
use Rattle.states.specs.declared.known.Source.TheVariants.{Nowhere, From, Test}
use Rattle.states.specs.State.{Facts, is_same_number}
use Rattle.states.specs.Frames.{with_alone}
use Rattle.rulings.specs.Meaning.{Activation, Means, is_number, MeansWord, is_fact, frame_word, ComesFrom, from_test}
use Rattle.rulings.specs.Meaning.{is_tested, loop_due, dues_from, farthest_word, dues}
use Rattle.local_rules.specs.WordRules.{range_of, number_in, own_range, same, narrowed_words}
use Rattle.rulings.proofs.Words.{word_test, means_same}
use Rattle.local_rules.proofs.Results.{lies}

-- what the outcome of a test says of the word that it speaks of
tested_so : (within holds b : Bool) (v : ℤ) → v ≡ truth (cond within b (not b)) → (holds ≡ true → v ≢ pos 0)
    → (holds ≡ false → v ≡ pos 0) → b ≡ same within holds
tested_so true true true v is so not_so = refl
tested_so true true false v is so not_so = absurd (so refl is)
tested_so true false true v is so not_so = let e : pos 1 ≡ pos 0 = sym is ∙ not_so refl in absurd (cc)
tested_so true false false v is so not_so = refl
tested_so false true true v is so not_so = absurd (so refl is)
tested_so false true false v is so not_so = refl
tested_so false false true v is so not_so = refl
tested_so false false false v is so not_so = let e : pos 1 ≡ pos 0 = sym is ∙ not_so refl in absurd (cc)

module _ (m : Contents) (act : Activation) where
  -- a number with what is left of its range
  left_means : (fact : Fact) (r other : Ends) (b : Bool) (x : ℤ) → Means m act.layout fact (Some x)
      → range_of fact ≡ Some r → in_range other x ≡ b → Means m act.layout (number_in (left_by b r other)) (Some x)
  left_means (Number lo hi) r other b x (is_number low high fits) is e =
      let here = lies m act.layout (Number lo hi) x r (is_number low high fits) is in
      let member = (left_narrows b r other here.range.ordered).members x here.member e in
      is_number member.from_lo member.to_hi fits
  left_means Unknown r other b x means is e = absurd (cc)
  left_means (Pointer region lo hi step) r other b x means is e = absurd (cc)
  left_means (CodeAddress offset) r other b x means is e = absurd (cc)
  left_means (Loop base count weight) r other b x means is e = absurd (cc)
  left_means ReturnAddress r other b x means is e = absurd (cc)

  own_means : (said : WordFact) (r other : Ends) (b : Bool) (k : ℤ) (v : Option ℤ) (x : ℤ) → v ≡ Some x
      → MeansWord m act k said v → own_range said ≡ Some r → in_range other x ≡ b
      → MeansWord m act k (Alone (number_in (left_by b r other))) v
  own_means (Alone fact) r other b k v x here (is_fact means) is e =
      subst (λ (u : Option ℤ). MeansWord m act k (Alone (number_in (left_by b r other))) u) (sym here)
      (is_fact (left_means fact r other b x (subst (λ (u : Option ℤ). Means m act.layout fact u) here means) is e))
  own_means (Index loop) r other b k v x here means is e = absurd (cc)
  own_means (Count loop) r other b k v x here means is e = absurd (cc)

  -- What is known of words where a value came out true, or false, holds of them.
  pub narrowed_means : (counts : ℤ → Bool) (memory : Memory) (facts : Facts) (source : Source) (holds : Bool) (v : ℤ)
      → ComesFrom counts memory act.layout.origin source (Some v) → (holds ≡ true → v ≢ pos 0)
      → (holds ≡ false → v ≡ pos 0)
      → ((k : ℤ) → counts k ≡ true → MeansWord m act k (facts k) (frame_word memory act.layout.origin k))
      → (k : ℤ) → counts k ≡ true
      → MeansWord m act k (narrowed_words source holds facts k) (frame_word memory act.layout.origin k)
  unfolding narrowed_words
  narrowed_means counts memory facts Nowhere holds v comes so not_so words k inside = words k inside
  narrowed_means counts memory facts (From word) holds v comes so not_so words k inside = words k inside
  narrowed_means counts memory facts (Test word lo hi within) holds v (from_test x counted is tested) so not_so words k
      within_frame = on_range (own_range (facts word)) refl
    where
      other : Ends
      other = record { lo = lo; hi = hi }

      value : v ≡ truth (cond within (in_range other x) (not (in_range other x)))
      value = let e : Some v ≡ Some (truth (is_tested lo hi within x)) = tested in cc

      known_at : (r t : Ends) → own_range (facts word) ≡ Some r → (lo ≡ t.lo) × (hi ≡ t.hi)
          → MeansWord m act k (with_alone word (number_in (left_by (same within holds) r t)) facts k)
          (frame_word memory act.layout.origin k)
      known_at r t e ends = elim (word_test k word) [
        | inl p ↦ means_same
            (subst (λ (j : ℤ). MeansWord m act j (Alone (number_in (left_by (same within holds) r t)))
            (frame_word memory act.layout.origin j)) (sym p.1)
            (own_means (facts word) r t (same within holds) word (frame_word memory act.layout.origin word) x is
            (words word counted) e
            (ap (λ (z : ℤ). int_le z x && int_le x t.hi) (sym ends.0)
            ∙ ap (λ (z : ℤ). int_le lo x && int_le x z) (sym ends.1)
            ∙ tested_so within holds (in_range other x) v value so not_so)))
            (sym (ap (λ (b : Bool). cond b (Alone (number_in (left_by (same within holds) r t))) (facts k)) p.0))
            refl
        | inr p ↦ means_same (words k within_frame)
            (sym (ap (λ (b : Bool). cond b (Alone (number_in (left_by (same within holds) r t))) (facts k)) p.0))
            refl
      ]

      on_other : (r : Ends) → own_range (facts word) ≡ Some r → (o : Option Ends) → range_between lo hi ≡ o
          → MeansWord m act k (elim o as (λ o. Facts) [
            | None ↦ facts
            | Some t ↦ with_alone word (number_in (left_by (same within holds) r t)) facts
          ] k) (frame_word memory act.layout.origin k)
      on_other r e None f = words k within_frame
      on_other r e (Some t) f =
          let ends = (words_in_order_are_ranges lo hi t).0 f in
          known_at r t e (sym ends.1, sym ends.2)

      on_range : (o : Option Ends) → own_range (facts word) ≡ o
          → MeansWord m act k (elim o as (λ o. Facts) [
            | None ↦ facts
            | Some r ↦ elim (range_between lo hi) as (λ o. Facts) [
              | None ↦ facts
              | Some t ↦ with_alone word (number_in (left_by (same within holds) r t)) facts
            ]
          ] k) (frame_word memory act.layout.origin k)
      on_range None e = words k within_frame
      on_range (Some r) e = on_other r e (range_between lo hi) refl

-- ---- what is due

alone_due : (b : Bool) (fact : Fact) (f : WordFact) (turns : ℕ)
    → loop_due (cond b (Alone fact) f) turns ≤ loop_due f turns
alone_due true fact f turns = omega arith
alone_due false fact f turns = omega arith

alone_from : (k : ℤ) (fact : Fact) (facts : Facts) (turns : ℤ → ℕ) (word : ℤ) (more : ℕ)
    → dues_from (with_alone k fact facts) turns word more ≤ dues_from facts turns word more
alone_from k fact facts turns word zero = omega arith
alone_from k fact facts turns word (suc more) =
    let here = alone_due (is_same_number word k) fact (facts word) (turns word) in
    let rest = alone_from k fact facts turns (word +ℤ pos 1) more in
    omega (arith, here, rest)

-- Narrowing adds nothing to what is due.
pub narrowed_dues : (source : Source) (holds : Bool) (facts : Facts) (turns : ℤ → ℕ)
    → dues (narrowed_words source holds facts) turns ≤ dues facts turns
unfolding narrowed_words dues
narrowed_dues Nowhere holds facts turns = omega arith
narrowed_dues (From word) holds facts turns = omega arith
narrowed_dues (Test word lo hi within) holds facts turns = on_range (own_range (facts word))
  where
    first : ℤ
    first = neg_ℤ (pos farthest_word)

    on_other : (r : Ends) (o : Option Ends) → dues_from (elim o as (λ o. Facts) [
      | None ↦ facts
      | Some t ↦ with_alone word (number_in (left_by (same within holds) r t)) facts
    ]) turns first (2 * farthest_word) ≤ dues_from facts turns first (2 * farthest_word)
    on_other r None = omega arith
    on_other r (Some t) =
        alone_from word (number_in (left_by (same within holds) r t)) facts turns first (2 * farthest_word)

    on_range : (o : Option Ends) → dues_from (elim o as (λ o. Facts) [
      | None ↦ facts
      | Some r ↦ elim (range_between lo hi) as (λ o. Facts) [
        | None ↦ facts
        | Some t ↦ with_alone word (number_in (left_by (same within holds) r t)) facts
      ]
    ]) turns first (2 * farthest_word) ≤ dues_from facts turns first (2 * farthest_word)
    on_range None = omega arith
    on_range (Some r) = on_other r (range_between lo hi)
