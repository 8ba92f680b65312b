-- What tests of whole intervals show of each word.
use Rattle.std.proofs.Common.{◌≡◌, ℕ, ◌&&◌, ℤ, pos, ◌+ℤ◌, ◌-ℤ◌, ◌≤ℤ◌, ◌<ℤ◌, Bool, true, false, inl, inr, List}
use Rattle.std.proofs.Common.{[], ◌∷◌, sym, ◌∙◌, subst, arith, nat_abs}
use Rattle.std.proofs.lemmas.Int.{ints}
use Rattle.std.specs.Prelude.{int_le, int_lt}
use Rattle.std.specs.List.{list_any, list_all}
use Rattle.std.proofs.lemmas.Bool.{and_from, or_cases, or_left, or_right, and_parts, false_from_ne_true}
use Rattle.small_laws.proofs.Comparisons.{lt-int_lt, int_le-true, int_lt-true}
use Rattle.module_format.specs.declared.rows.Interval.{Interval}
use Rattle.module_format.specs.Pars.{intervals_meet}
use Rattle.certificate.specs.Rights.{is_among}
use Rattle.certificate.specs.Words.{all_words}
use Rattle.rulings.proofs.Offsets.{all_words_at}

-- a word of an interval passes what all of its words pass
word_passes : (test : ℤ → Bool) (i : Interval) (k : ℤ) → all_words test i.lo (nat_abs (i.hi -ℤ i.lo)) ≡ true
    → i.lo ≤ℤ k → k <ℤ i.hi → test k ≡ true
word_passes test i k all low high =
    let n : ℕ = nat_abs (k -ℤ i.lo) in
    let at : i.lo +ℤ pos n ≡ k = omega (arith, ints, low) in
    subst (λ (z : ℤ). test z ≡ true) at
    (all_words_at test i.lo (nat_abs (i.hi -ℤ i.lo)) n all (omega (arith, ints, low, high)))

-- so does each word of a list of intervals
pub words_pass : (test : ℤ → Bool) (is : List Interval) (k : ℤ)
    → list_all (λ (i : Interval). all_words test i.lo (nat_abs (i.hi -ℤ i.lo))) is ≡ true → is_among is k ≡ true
    → test k ≡ true
words_pass test [] k all among = absurd (cc)
words_pass test (i ∷ is) k all among =
    let both = and_parts (all_words test i.lo (nat_abs (i.hi -ℤ i.lo))) _ all in
    elim (or_cases (int_le i.lo k && int_lt k i.hi) _ among) [
      | inl here ↦
          let ends = and_parts (int_le i.lo k) (int_lt k i.hi) here in
          word_passes test i k both.0 (int_le-true i.lo k ends.0) (int_lt-true k i.hi ends.1)
      | inr there ↦ words_pass test is k both.1 there
    ]

-- an interval meets one of a list if both have a word
meets_one : (other : Interval) (is : List Interval) (k : ℤ) → other.lo ≤ℤ k → k <ℤ other.hi → is_among is k ≡ true
    → list_any (intervals_meet other) is ≡ true
meets_one other [] k low high among = absurd (cc)
meets_one other (i ∷ is) k low high among = elim (or_cases (int_le i.lo k && int_lt k i.hi) _ among) [
  | inl here ↦
      let ends = and_parts (int_le i.lo k) (int_lt k i.hi) here in
      let from = int_le-true i.lo k ends.0 in
      let to = int_lt-true k i.hi ends.1 in
      or_left _ _ (and_from (int_lt other.lo i.hi) (int_lt i.lo other.hi)
      (lt-int_lt other.lo i.hi (omega (arith, ints, low, to)))
      (lt-int_lt i.lo other.hi (omega (arith, ints, from, high))))
  | inr there ↦ or_right (intervals_meet other i) _ (meets_one other is k low high there)
]

-- two lists with a word in common have intervals that meet
common_word : (is others : List Interval) (k : ℤ) → is_among is k ≡ true → is_among others k ≡ true
    → list_any (λ other. list_any (intervals_meet other) is) others ≡ true
common_word is [] k mine theirs = absurd (cc)
common_word is (other ∷ others) k mine theirs = elim (or_cases (int_le other.lo k && int_lt k other.hi) _ theirs) [
  | inl here ↦
      let ends = and_parts (int_le other.lo k) (int_lt k other.hi) here in
      or_left _ _ (meets_one other is k (int_le-true other.lo k ends.0) (int_lt-true k other.hi ends.1) mine)
  | inr there ↦ or_right (list_any (intervals_meet other) is) _ (common_word is others k mine there)
]

-- where no intervals meet, no word is in both lists
pub no_common_word : (is others : List Interval) (k : ℤ)
    → list_any (λ other. list_any (intervals_meet other) is) others ≡ false → is_among is k ≡ true
    → is_among others k ≡ false
no_common_word is others k apart mine = false_from_ne_true (is_among others k) (λ theirs.
    let no' : false ≡ true = sym apart ∙ common_word is others k mine theirs in cc)
