-- What was wanted of words is known of them still once they are widened by a range that says it.
use Rattle.std.proofs.Common.{◌≡◌, ℕ, ◌/◌, ℤ, pos, ◌-ℤ◌, Bool, true, cond, Option, Some, None, refl}
use Rattle.std.proofs.Common.{ap, ◌∙◌, arith}
use Rattle.std.specs.Int.{int_min, int_max}
use Rattle.std.proofs.lemmas.Int.{ints, clamps}
use Rattle.std.proofs.lemmas.Bool.{and_parts, and_from}
use Rattle.small_laws.proofs.Comparisons.{le-int_le, int_le-true}
use Rattle.module_format.specs.Rows.{Fact}
use Rattle.module_format.specs.declared.fact.Fact.TheVariants.{Unknown, Number, Pointer, CodeAddress, Loop}
use Rattle.module_format.specs.declared.fact.Fact.TheVariants.{ReturnAddress}
use Rattle.states.specs.declared.known.WordFact.{WordFact}
use Rattle.states.specs.declared.known.WordFact.TheVariants.{Alone, Index, Count}
use Rattle.states.specs.declared.span.Leaving.{Leaving}
use Rattle.states.specs.declared.span.Leaving.TheVariants.{Become, Widen}
use Rattle.states.specs.State.{Facts, by_itself}
use Rattle.states.specs.Below.{says, implies}
use Rattle.states.specs.Blocks.{block_words, first_of, left_after, is_widening}
use Rattle.states.specs.Frames.{with_span}
use Rattle.states.specs.Spans.{widened}
use Rattle.states.specs.Remembered.{allows}
use Rattle.states.proofs.Hulls.{implies-narrower, unknown-implied}
use Rattle.states.proofs.Leavings.{inside, outside, in-block}

-- what a fact and a range say, the fact says that is widened by that range
widened-implies : (lo hi : ℤ) (said wanted : Fact) → implies (Number lo hi) wanted ≡ true → implies said wanted ≡ true
    → implies (widened lo hi said) wanted ≡ true
widened-implies lo hi said Unknown range h = unknown-implied (widened lo hi said)
widened-implies lo hi (Number a b) (Number from to) range h =
    let both = and_parts _ _ h in
    let other = and_parts _ _ range in
    let l = int_le-true from a both.0 in
    let r = int_le-true b to both.1 in
    let m = int_le-true from lo other.0 in
    let s = int_le-true hi to other.1 in
    and_from _ _ (le-int_le from (int_min a lo) (omega (arith, ints, clamps, l, m)))
    (le-int_le (int_max b hi) to (omega (arith, ints, clamps, r, s)))
widened-implies lo hi Unknown (Number from to) range h = absurd (cc)
widened-implies lo hi (Pointer region a b step) (Number from to) range h = absurd (cc)
widened-implies lo hi (CodeAddress offset) (Number from to) range h = absurd (cc)
widened-implies lo hi (Loop base count weight) (Number from to) range h = absurd (cc)
widened-implies lo hi ReturnAddress (Number from to) range h = absurd (cc)
widened-implies lo hi said (Pointer region from to step) range h = absurd (cc)
widened-implies lo hi said (CodeAddress offset) range h = absurd (cc)
widened-implies lo hi said (Loop base count weight) range h = absurd (cc)
widened-implies lo hi said ReturnAddress range h = absurd (cc)

-- what is allowed by two ways of leaving is allowed by the first, and is known after the second if it was before
allows-widened : (before : Option Leaving) (lo hi : ℤ) (fact wanted : WordFact)
    → allows (Some (left_after before (Widen lo hi))) wanted ≡ true
    → (allows before wanted ≡ true)
    × (says fact wanted ≡ true → says (Alone (widened lo hi (by_itself fact))) wanted ≡ true)
allows-widened None lo hi fact (Alone wanted) h = (refl, λ said. widened-implies lo hi (by_itself fact) wanted h said)
allows-widened None lo hi fact (Index loop) h = absurd (cc)
allows-widened None lo hi fact (Count loop) h = absurd (cc)
allows-widened (Some (Widen low high)) lo hi fact (Alone wanted) h = (
  implies-narrower low high (int_min low lo) (int_max high hi) wanted (omega (arith, ints, clamps))
      (omega (arith, ints, clamps)) h,
  λ said. widened-implies lo hi (by_itself fact) wanted
      (implies-narrower lo hi (int_min low lo) (int_max high hi) wanted (omega (arith, ints, clamps))
      (omega (arith, ints, clamps)) h)
      said,
)
allows-widened (Some (Widen low high)) lo hi fact (Index loop) h = absurd (cc)
allows-widened (Some (Widen low high)) lo hi fact (Count loop) h = absurd (cc)
allows-widened (Some (Become other)) lo hi fact wanted h = absurd (cc)

-- a word of a block that is widened
pub widened-in : (lo : ℤ) (number : ℕ) (leaving : Leaving) (facts new : Facts) (k : ℤ) (n : ℕ) (before : Option Leaving)
    (wanted : WordFact) → new ≡ with_span (first_of lo number) block_words leaving facts → is_widening leaving ≡ true
    → k -ℤ lo ≡ pos n → n / block_words ≡ number → allows (Some (left_after before leaving)) wanted ≡ true
    → (allows before wanted ≡ true) × (says (facts k) wanted ≡ true → says (new k) wanted ≡ true)
widened-in lo number (Become fact) facts new k n before wanted new_is is at here allowed = absurd (cc)
widened-in lo number (Widen low high) facts new k n before wanted new_is is at here allowed =
    elim (in-block lo number k) [
      | inside j less word e ↦
          let fact : new k ≡ Alone (widened low high (by_itself (facts k))) =
          ap (λ (f : Facts). f k) new_is
          ∙ ap (λ (b : Bool). cond b (Alone (widened low high (by_itself (facts k)))) (facts k)) e in
          let both = allows-widened before low high (facts k) wanted allowed in
          (both.0, λ said. ap (λ (f : WordFact). says f wanted) fact ∙ both.1 said)
      | outside e far ↦ absurd (far n at here)
    ]
