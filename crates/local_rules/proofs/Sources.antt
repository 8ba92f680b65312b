-- Where the result of a comparison comes from: it shows the range of a word.
use Rattle.std.proofs.Common.{◌≡◌, ℤ, pos, ◌+ℤ◌, ◌-ℤ◌, ◌&&◌, FitsSigned, Bool, true, false, not, cond, if◌then◌else◌}
use Rattle.std.proofs.Common.{inl, inr, Option, Some, None, refl, sym, ap, ◌∙◌, subst, arith}
use Rattle.std.proofs.lemmas.Int.{ints}
use Rattle.std.proofs.lemmas.Bool.Decides.{Decides-int_eq}
use Rattle.std.specs.Prelude.{int_le, int_lt}
use Rattle.std.specs.Option.{option_map, option_and_then}
use Rattle.std.specs.Ordering.{int_eq}
use Rattle.std.specs.Int.{w32}
use Rattle.word_arithmetic.specs.declared.binary.Binary.{Binary as BinaryOperation}
use Rattle.word_arithmetic.specs.declared.binary.Binary.TheVariants as binary
use Rattle.word_arithmetic.specs.Word.{truth, least_word, greatest_word}
use Rattle.word_arithmetic.specs.Range.{Ends, range_between, only_number, is_constant, words_above, words_below}
use Rattle.word_arithmetic.specs.Binary.{computed}
use Rattle.word_arithmetic.proofs.EndsLaws.{words_in_order_are_ranges}
use Rattle.module_format.specs.Rows.{Fact}
use Rattle.module_format.specs.Contents.{Contents}
use Rattle.machine_state.specs.Memory.{Memory}
use Rattle.states.specs.declared.known.Known.{Known}
use Rattle.states.specs.declared.known.Source.{Source}
use Rattle.states.specs.declared.known.Source.TheVariants.{Nowhere, From, Test}
use Rattle.states.specs.State.{is_same_number}
use Rattle.rulings.specs.Meaning.{Layout, Means, frame_word, ComesFrom, from_nowhere, from_word, from_test, MeansKnown}
use Rattle.rulings.specs.Meaning.{is_tested}
use Rattle.local_rules.specs.WordRules.{range_of, constant_in, test_of, word_and_constant, greater_source}
use Rattle.local_rules.specs.WordRules.{equal_source, result_source, constant_source}
use Rattle.rulings.proofs.Words.{int_le_tells, word_test}
use Rattle.local_rules.proofs.Results.{Lies, lies}

-- x is above v exactly if it lies from the next word to the greatest
above : (v x : ℤ) → FitsSigned w32 x → int_lt v x ≡ (int_le (v +ℤ pos 1) x && int_le x greatest_word)
above v x fits = elim (int_le_tells (v +ℤ pos 1) x) [
  | inl p ↦ grind (arith, ints, p.1, fits)
  | inr p ↦ grind (arith, ints, p.1, fits)
]

below : (v x : ℤ) → FitsSigned w32 x → int_lt x v ≡ (int_le least_word x && int_le x (v -ℤ pos 1))
below v x fits = elim (int_le_tells x (v -ℤ pos 1)) [
  | inl p ↦ grind (arith, ints, p.1, fits)
  | inr p ↦ grind (arith, ints, p.1, fits)
]

equal : (v x : ℤ) → int_eq x v ≡ (int_le v x && int_le x v)
equal v x = grind (arith, ints)

module _ (m : Contents) (counts : ℤ → Bool) (layout : Layout) (memory : Memory) where
  -- ---- a word, and a constant

  -- a constant is the value
  constant_is : (fact : Fact) (y v : ℤ) → Means m layout fact (Some y) → constant_in fact ≡ Some v → y ≡ v
  constant_is fact y v means is = on_range (range_of fact) refl is
    where
      on_test : (r : Ends) → Lies m layout r y → (b : Bool) → is_constant r ≡ b
          → ◌≡◌ {A = Option ℤ} (if b then Some r.lo else None) (Some v) → y ≡ v
      on_test r here true e h =
          let low : r.lo ≡ v = cc in
          let one : r.lo ≡ r.hi = (Decides-int_eq r.lo r.hi).0 e in
          let from = here.member.from_lo in
          let to = here.member.to_hi in
          omega (arith, ints)
      on_test r here false e h = absurd (cc)

      on_range : (o : Option Ends) → range_of fact ≡ o → option_and_then only_number o ≡ Some v → y ≡ v
      on_range None e h = absurd (cc)
      on_range (Some r) e h = on_test r (lies m layout fact y r means e) (is_constant r) refl h

  -- the one is a word, and the other a constant
  record AreSo (found : ℤ × ℤ) (x y : ℤ) : Type 0 where
    counted : counts found.0 ≡ true
    word : frame_word memory layout.origin found.0 ≡ Some x
    constant : y ≡ found.1

  are_so : (one other : Known) (x y : ℤ) (found : ℤ × ℤ) → MeansKnown m counts layout memory one (Some x)
      → MeansKnown m counts layout memory other (Some y) → word_and_constant one other ≡ Some found → AreSo found x y
  are_so one other x y found p q h = on_source one.source p.source h
    where
      on_constant : (word : ℤ) → ComesFrom counts memory layout.origin (From word) (Some x) → (o : Option ℤ)
          → constant_in other.fact ≡ o → option_map (λ (v : ℤ). (word, v)) o ≡ Some found → AreSo found x y
      on_constant word (from_word counted is) None e h = absurd (cc)
      on_constant word (from_word counted is) (Some v) e h =
          let same : ◌≡◌ {A = ℤ × ℤ} (word, v) found = cc in
          subst (λ (f : ℤ × ℤ). AreSo f x y) same
          (record { counted = counted; word = sym is; constant = constant_is other.fact y v q.fact e })

      on_source : (s : Source) → ComesFrom counts memory layout.origin s (Some x) → (elim s as (λ s. Option (ℤ × ℤ)) [
        | From word ↦ option_map (λ v. (word, v)) (constant_in other.fact)
        | _ ↦ None
      ]) ≡ Some found → AreSo found x y
      on_source Nowhere comes h = absurd (cc)
      on_source (From word) comes h = on_constant word comes (constant_in other.fact) refl h
      on_source (Test word lo hi inside) comes h = absurd (cc)

  -- a test of a word, by the range in which it lies
  test_means : (word x lo hi : ℤ) (outcome : Bool) → counts word ≡ true
      → frame_word memory layout.origin word ≡ Some x → outcome ≡ (int_le lo x && int_le x hi)
      → ComesFrom counts memory layout.origin (test_of word (range_between lo hi)) (Some (truth outcome))
  test_means word x lo hi outcome counted is so = on_range (range_between lo hi) refl
    where
      on_range : (o : Option Ends) → range_between lo hi ≡ o
          → ComesFrom counts memory layout.origin (test_of word o) (Some (truth outcome))
      on_range None e = from_nowhere
      on_range (Some r) e =
          let ends = ((words_in_order_are_ranges lo hi r).0 e) in
          from_test x counted is (ap (λ (b : Bool). Some (truth b))
          (so ∙ ap (λ (z : ℤ). int_le z x && int_le x hi) (sym ends.1)
          ∙ ap (λ (z : ℤ). int_le r.lo x && int_le x z) (sym ends.2)))

  -- ---- comparisons

  greater_means : (left right : Known) (x y : ℤ) → FitsSigned w32 x → FitsSigned w32 y
      → MeansKnown m counts layout memory left (Some x) → MeansKnown m counts layout memory right (Some y)
      → ComesFrom counts memory layout.origin (greater_source left right) (Some (truth (int_lt y x)))
  unfolding greater_source
  greater_means left right x y f g p q = on_first (word_and_constant left right) refl
    where
      on_second : (o : Option (ℤ × ℤ)) → word_and_constant right left ≡ o
          → ComesFrom counts memory layout.origin (elim o as (λ o. Source) [
            | Some found ↦ test_of found.0 (words_below found.1)
            | None ↦ Nowhere
          ]) (Some (truth (int_lt y x)))
      on_second None e = from_nowhere
      on_second (Some found) e =
          let so = are_so right left y x found q p e in
          test_means found.0 y least_word (found.1 -ℤ pos 1) (int_lt y x) so.counted so.word
          (ap (int_lt y) so.constant ∙ below found.1 y g)

      on_first : (o : Option (ℤ × ℤ)) → word_and_constant left right ≡ o
          → ComesFrom counts memory layout.origin (elim o as (λ o. Source) [
            | Some found ↦ test_of found.0 (words_above found.1)
            | None ↦ elim (word_and_constant right left) as (λ o. Source) [
              | Some found ↦ test_of found.0 (words_below found.1)
              | None ↦ Nowhere
            ]
          ]) (Some (truth (int_lt y x)))
      on_first None e = on_second (word_and_constant right left) refl
      on_first (Some found) e =
          let so = are_so left right x y found p q e in
          test_means found.0 x (found.1 +ℤ pos 1) greatest_word (int_lt y x) so.counted so.word
          (ap (λ (z : ℤ). int_lt z x) so.constant ∙ above found.1 x f)

  -- the outcome of a test, or its opposite
  turned : (within inside : Bool) (v : ℤ) → v ≡ truth (cond inside within (not within))
      → truth (int_eq v (pos 0)) ≡ truth (cond (not inside) within (not within))
  turned true true v is = ap (λ (z : ℤ). truth (int_eq z (pos 0))) is
  turned true false v is = ap (λ (z : ℤ). truth (int_eq z (pos 0))) is
  turned false true v is = ap (λ (z : ℤ). truth (int_eq z (pos 0))) is
  turned false false v is = ap (λ (z : ℤ). truth (int_eq z (pos 0))) is

  equal_means : (left : Known) (x v : ℤ) → MeansKnown m counts layout memory left (Some x)
      → ComesFrom counts memory layout.origin (equal_source left v) (Some (truth (int_eq x v)))
  unfolding equal_source
  equal_means left x v p = on_source left.source p.source
    where
      on_test : (word lo hi y : ℤ) (inside : Bool) → counts word ≡ true
          → frame_word memory layout.origin word ≡ Some y → x ≡ truth (is_tested lo hi inside y) → (b : Bool)
          → is_same_number v (pos 0) ≡ b
          → ComesFrom counts memory layout.origin (if b then Test word lo hi (not inside) else Nowhere)
          (Some (truth (int_eq x v)))
      on_test word lo hi y inside counted is tested false e = from_nowhere
      on_test word lo hi y inside counted is tested true e = elim (word_test v (pos 0)) [
        | inl zero ↦ from_test y counted is (ap (λ (z : ℤ). Some z)
            (ap (λ (z : ℤ). truth (int_eq x z)) zero.1 ∙ turned (int_le lo y && int_le y hi) inside x tested))
        | inr other ↦ let no' : true ≡ false = sym e ∙ other.0 in absurd (cc)
      ]

      on_source : (s : Source) → ComesFrom counts memory layout.origin s (Some x)
          → ComesFrom counts memory layout.origin (elim s as (λ s. Source) [
            | Nowhere ↦ Nowhere
            | From word ↦ Test word v v true
            | Test word lo hi inside ↦ if is_same_number v (pos 0) then Test word lo hi (not inside) else Nowhere
          ]) (Some (truth (int_eq x v)))
      on_source Nowhere comes = from_nowhere
      on_source (From word) (from_word counted is) =
          from_test x counted (sym is) (ap (λ (b : Bool). Some (truth b)) (equal v x))
      on_source (Test word lo hi inside) (from_test y counted is tested) =
          let value : x ≡ truth (is_tested lo hi inside y) = cc in
          on_test word lo hi y inside counted is value (is_same_number v (pos 0)) refl

  -- ---- the results of operations

  pub result_comes : (op : BinaryOperation) (left right : Known) (x y : ℤ) → FitsSigned w32 x → FitsSigned w32 y
      → MeansKnown m counts layout memory left (Some x) → MeansKnown m counts layout memory right (Some y)
      → ComesFrom counts memory layout.origin (result_source op left right) (computed op x y)
  unfolding computed
  result_comes binary.Greater left right x y f g p q = greater_means left right x y f g p q
  result_comes _ left right x y f g p q = from_nowhere

  pub constant_comes : (op : BinaryOperation) (left : Known) (x v : ℤ) → MeansKnown m counts layout memory left (Some x)
      → ComesFrom counts memory layout.origin (constant_source op left v) (computed op x v)
  unfolding computed
  constant_comes binary.Equal left x v p = equal_means left x v p
  constant_comes _ left x v p = from_nowhere
