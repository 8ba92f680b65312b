-- Words that intervals have, from some word on.
use Rattle.std.proofs.Common.{◌≡◌, ℤ, ◌≤ℤ◌, ◌<ℤ◌, Bool, true, false, ◌&&◌, ◌||◌, List, [], ◌∷◌, refl}
use Rattle.std.proofs.Common.{ap, ◌∙◌, sym, subst, arith}
use Rattle.std.proofs.Math.Bool.{or-true}
use Rattle.std.specs.Prelude.{int_le, int_lt}
use Rattle.std.proofs.lemmas.Int.{ints, by_lt_z}
use Rattle.std.proofs.lemmas.Bool.{and_from, and_right}
use Rattle.small_laws.proofs.Comparisons.{lt-int_lt, le-int_le, lt-int_le, le-int_lt}
use Rattle.module_format.specs.declared.rows.Interval.{Interval}
use Rattle.module_format.specs.Order.{InOrder, least_word}
use Rattle.module_format.specs.Pars.{IntervalKeeps, behind_interval}
use Rattle.certificate.specs.Rights.{is_among}

abbrev Rise : ℤ → List Interval → Type 0
Rise low intervals = InOrder IntervalKeeps behind_interval low intervals

-- an interval that ends at a word or before it has no word from there on
pub ended : (i : Interval) (is : List Interval) (word k : ℤ) → i.hi ≤ℤ word → word ≤ℤ k
    → is_among is k ≡ is_among (i ∷ is) k
ended i is word k ends later =
    sym (ap (λ (b : Bool). b || is_among is k)
    (and_right (int_le i.lo k) (int_lt k i.hi) (le-int_lt k i.hi (omega (arith, ints)))))

-- an interval has the words from its first up to its end
pub begun : (i : Interval) (is : List Interval) (k : ℤ) → i.lo ≤ℤ k → k <ℤ i.hi → is_among (i ∷ is) k ≡ true
begun i is k low high =
    ap (λ (b : Bool). b || is_among is k) (and_from _ _ (le-int_le i.lo k low) (lt-int_lt k i.hi high))

-- none has a word before the first
pub none-before : (low : ℤ) (is : List Interval) (k : ℤ) → Rise low is → k <ℤ low → is_among is k ≡ false
none-before low [] k h less = refl
none-before low (i ∷ is) k h less =
    let apart = h.0.apart in
    let some = h.0.some in
    ap (λ (b : Bool). b || is_among is k)
    (ap (λ (b : Bool). b && int_lt k i.hi) (lt-int_le i.lo k (omega (arith, ints))))
    ∙ none-before i.hi is k h.1 (omega (arith, ints))

pub before-first : (low : ℤ) (i : Interval) (is : List Interval) (k : ℤ) → Rise low (i ∷ is) → k <ℤ i.lo
    → is_among (i ∷ is) k ≡ false
before-first low i is k h less =
    let some = h.0.some in
    ap (λ (b : Bool). b || is_among is k)
    (ap (λ (b : Bool). b && int_lt k i.hi) (lt-int_le i.lo k less))
    ∙ none-before i.hi is k h.1 (omega (arith, ints))

from-least : (low : ℤ) (is : List Interval) → least_word ≤ℤ low → Rise low is → Rise least_word is
from-least low [] le h = tt
from-least low (i ∷ is) le h =
    let apart = h.0.apart in
    (record { lo_fits = h.0.lo_fits; hi_fits = h.0.hi_fits; apart = omega (arith, ints); some = h.0.some }, h.1)

-- those after the first rise
pub behind-first : (i : Interval) (is : List Interval) → Rise least_word (i ∷ is) → Rise least_word is
behind-first i is h =
    let apart = h.0.apart in
    let some = h.0.some in
    from-least i.hi is (omega (arith, ints)) h.1

-- ---- the same of intervals that are a first one and others

module _ (rest : List Interval) (i : Interval) (is : List Interval) (rest_is : rest ≡ i ∷ is)
    (h : Rise least_word rest) where
  pub outside : (k : ℤ) → k <ℤ i.lo → is_among rest k ≡ false
  outside k less =
      ap (λ (all : List Interval). is_among all k) rest_is
      ∙ before-first least_word i is k (subst (λ (all : List Interval). Rise least_word all) rest_is h) less

  pub inside : (k : ℤ) → i.lo ≤ℤ k → k <ℤ i.hi → is_among rest k ≡ true
  inside k low high = ap (λ (all : List Interval). is_among all k) rest_is ∙ begun i is k low high

  pub tail-rises : Rise least_word is
  tail-rises = behind-first i is (subst (λ (all : List Interval). Rise least_word all) rest_is h)

  pub tail-same : (word k : ℤ) → i.hi ≤ℤ word → word ≤ℤ k → is_among is k ≡ is_among rest k
  tail-same word k ends later =
      ended i is word k ends later ∙ ap (λ (all : List Interval). is_among all k) (sym rest_is)

-- ---- words that one or the other intervals have

-- those from here on are covered up to the farther end
pub covered-further : (ones others here there : List Interval) (first word end next k : ℤ)
    → ((k : ℤ) → word ≤ℤ k → is_among here k ≡ is_among ones k)
    → ((k : ℤ) → word ≤ℤ k → k <ℤ end → is_among here k ≡ true)
    → ((k : ℤ) → first ≤ℤ k → k <ℤ word → is_among ones k || is_among others k ≡ true)
    → ((k : ℤ) → word ≤ℤ k → is_among there k ≡ is_among others k)
    → ((k : ℤ) → word ≤ℤ k → k <ℤ next → is_among there k ≡ true)
    → first ≤ℤ k → (end ≤ℤ k → k <ℤ next) → is_among ones k || is_among others k ≡ true
covered-further ones others here there first word end next k same within before same_there within_there low far =
    by_lt_z k word (λ less. before k low less) (λ more. by_lt_z k end
    (λ less. ap (λ (b : Bool). b || is_among others k) (sym (same k more) ∙ within k more less))
    (λ past. ap (λ (b : Bool). is_among ones k || b) (sym (same_there k more) ∙ within_there k more (far past))
    ∙ or-true (is_among ones k)))

-- none of them has a word that neither has from here on
pub neither : (ones others here there : List Interval) (word : ℤ) → is_among here word ≡ is_among ones word
    → is_among there word ≡ is_among others word → is_among here word ≡ false → is_among there word ≡ false
    → is_among ones word || is_among others word ≡ false
neither ones others here there word same same_there fails fails_there =
    ap (λ (b : Bool). b || is_among others word) (sym same ∙ fails) ∙ (sym same_there ∙ fails_there)
