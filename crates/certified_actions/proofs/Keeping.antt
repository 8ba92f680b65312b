-- What a scope says of words stays known where their numbers and loops stay.
use Rattle.std.proofs.Common.{◌≡◌, ℕ, ◌+◌, ◌-◌, ◌<◌, ◌≤◌, ℤ, pos, ◌+ℤ◌, ◌-ℤ◌, Bool, true, false, List}
use Rattle.std.proofs.Common.{length, Option, Some, refl, sym, ap, subst, ◌∙◌, arith}
use Rattle.std.proofs.lemmas.Int.{ints}
use Rattle.std.proofs.lemmas.Bool.{and_parts}
use Rattle.small_laws.proofs.Comparisons.{int_le-true, int_lt-true}
use Rattle.std.specs.Prelude.{int_le, int_lt}
use Rattle.word_arithmetic.specs.Range.{Ends, IsRange, full}
use Rattle.states.specs.declared.known.WordFact.{WordFact}
use Rattle.states.specs.declared.known.WordFact.TheVariants.{Alone, Index, Count}
use Rattle.states.specs.declared.span.Leaving.TheVariants.{Widen}
use Rattle.states.specs.Spans.{is_in_span, on_span}
use Rattle.states.specs.State.{Facts, Change, changed, is_alone, is_parted}
use Rattle.local_rules.specs.WordRules.{number_in}
use Rattle.scalar_ranges.specs.Entries.{Meaning, Constant, Scalar, Array, Entry}
use Rattle.line_pieces.specs.Homes.{Home, Word, Block}
use Rattle.certified_lines.specs.Scopes.{Scene, EachNameHas, IsNumber, AreKnownThere, HoldsScope, IsHousedThere}
use Rattle.certified_lines.specs.Scopes.{IsScope}
use Rattle.certified_lines.specs.Scopes.{loop_of}
use Rattle.certified_lines.specs.Telling.{IsWhole, StayBefore}
use Rattle.certified_lines.proofs.Arrays.{full_words_stay_full, other_words_stay}
use Rattle.certified_lines.proofs.Telling.{each_has}
use Rattle.certified_actions.specs.Keeping.{WordsThere, NumbersStay, NumbersStayBefore, KeptNumbersHold}

-- ---- names

module _ (g : Scene) (P : ℕ → Type 0) (old new : Facts) (stay : NumbersStay P old new) where
  name_kept : (h : Option Home) (k : Meaning) → WordsThere P h k → AreKnownThere g old h k → AreKnownThere g new h k
  name_kept (Some h) (Constant type value) words is = is
  name_kept (Some (Word w)) (Scalar kind type range) words is = stay.alone w range words is
  name_kept (Some (Block w head)) (Scalar kind type range) words is =
      stay.loops w (loop_of g head range) (loop_of g head range) words.0 words.1 is.0 is.1
  name_kept (Some (Word w)) (Array kind type (Some size) range) words is =
      λ n less. stay.alone (w + n) full (words n less) (is n less)
  name_kept h k words is = is

  pub numbers_kept : (es : List Entry) → EachNameHas (WordsThere P) g.homes es → HoldsScope g es old
      → HoldsScope g es new
  numbers_kept es words holds =
      each_has (WordsThere P) (AreKnownThere g old) (AreKnownThere g new) g.homes es name_kept words holds

-- the words of names lie before the first free one
housed_words : (g : Scene) (top : ℕ) (h : Option Home) (k : Meaning) → IsHousedThere g top h k
    → IsHousedThere g top h k → WordsThere (λ n. n < top) h k
housed_words g top (Some h) (Constant type value) housed same = tt
housed_words g top (Some (Word w)) (Scalar kind type range) housed same = housed.1
housed_words g top (Some (Block w head)) (Scalar kind type range) housed same =
    let less = housed.1 in (omega (arith, less), less)
housed_words g top (Some (Word w)) (Array kind type (Some size) range) housed same =
    let ends = housed.1 in λ n less. omega (arith, ends, less)
housed_words g top h k housed same = tt

-- so of each name of a scope
pub scope_words : (g : Scene) (top : ℕ) (es : List Entry) → IsScope g top es
    → EachNameHas (WordsThere (λ n. n < top)) g.homes es
scope_words g top es scope =
    each_has (IsHousedThere g top) (IsHousedThere g top) (WordsThere (λ n. n < top)) g.homes es (housed_words g top)
    scope.housed scope.housed

pub kept_numbers_hold : KeptNumbersHold
kept_numbers_hold g top es old new scope stay holds =
    numbers_kept g (λ n. n < top) old new stay es (scope_words g top es scope) holds

-- ---- what stays

-- words that stay before this one
pub before_stays : (top t : ℕ) (old new : Facts) → top ≤ t → StayBefore t old new → NumbersStayBefore top old new
before_stays top t old new few stay = record {
  alone = λ k r less is. stay k (omega (arith, less, few)) (subst (IsWhole t k) (sym is) tt) ∙ is;
  loops = λ k i c less more index count. (
    stay k (omega (arith, less, few)) (subst (IsWhole t k) (sym index) (omega (arith, more, few))) ∙ index,
    stay (k + 1) (omega (arith, more, few)) (subst (IsWhole t (k + 1)) (sym count) tt) ∙ count,
  );
}

-- one change after another
pub numbers_both : (P : ℕ → Type 0) (f g h : Facts) → NumbersStay P f g → NumbersStay P g h → NumbersStay P f h
numbers_both P f g h first second = record {
  alone = λ k r within is. second.alone k r within (first.alone k r within is);
  loops = λ k i c within next index count.
      let here = first.loops k i c within next index count in
      second.loops k i c within next here.0 here.1;
}

-- words that a change does not touch
module _ (P : ℕ → Type 0) (change : Change) (f : Facts)
    (apart : (k : ℕ) → P k → change.touches (pos k) ≡ false) where
  untouched : (k : ℕ) (w : WordFact) → P k → f (pos k) ≡ w → is_parted change.touches (pos k) w ≡ false
      → changed change f (pos k) ≡ w
  untouched k w within is whole =
      other_words_stay change f (pos k) (apart k within)
      (ap (λ (x : WordFact). is_parted change.touches (pos k) x) is ∙ whole)
      ∙ is

  pub untouched_stay : NumbersStay P f (changed change f)
  untouched_stay = record {
    alone = λ k r within is. untouched k (Alone (number_in r)) within is refl;
    loops = λ k i c within next index count.
        let back : pos (k + 1) -ℤ pos 1 ≡ pos k = omega (arith, ints) in (
          untouched k (Index i) within index (apart (k + 1) next),
          untouched (k + 1) (Count c) next count (ap change.touches back ∙ apart k within),
        );
  }

-- fewer words
pub fewer_stay : (P Q : ℕ → Type 0) (old new : Facts) → ((k : ℕ) → Q k → P k) → NumbersStay P old new
    → NumbersStay Q old new
fewer_stay P Q old new fewer stay = record {
  alone = λ k r within is. stay.alone k r (fewer k within) is;
  loops = λ k i c within next index count. stay.loops k i c (fewer k within) (fewer (k + 1) next) index count;
}

-- Words that change were any numbers and are so again, and no others change but those in a loop with one.
module _ (P : ℕ → Type 0) (touches : ℤ → Bool) (old new : Facts)
    (again : (k : ℕ) → touches (pos k) ≡ true → IsNumber old k full × IsNumber new k full)
    (others : (k : ℕ) → touches (pos k) ≡ false → is_parted touches (pos k) (old (pos k)) ≡ false
    → new (pos k) ≡ old (pos k)) where
  -- a word of a loop is none of them
  loop_spared : (t : Bool) (k : ℕ) (w : WordFact) → touches (pos k) ≡ t → old (pos k) ≡ w → is_alone w ≡ false
      → touches (pos k) ≡ false
  loop_spared true k w test is other =
      absurd (cc (ap is_alone (sym is ∙ (again k test).0) ∙ refl, other))
  loop_spared false k w test is other = test

  alone_by : (t : Bool) (k : ℕ) (r : Ends) → touches (pos k) ≡ t → IsNumber old k r → IsNumber new k r
  alone_by true k r test is = (again k test).1 ∙ (sym (again k test).0 ∙ is)
  alone_by false k r test is = others k test (ap (λ (w : WordFact). is_parted touches (pos k) w) is) ∙ is

  pub numbers_spared : NumbersStay P old new
  numbers_spared = record {
    alone = λ k r within is. alone_by (touches (pos k)) k r refl is;
    loops = λ k i c within next index count.
        let here = loop_spared (touches (pos k)) k (Index i) refl index refl in
        let there = loop_spared (touches (pos (k + 1))) (k + 1) (Count c) refl count refl in
        let back : pos (k + 1) -ℤ pos 1 ≡ pos k = omega (arith, ints) in (
          others k here (ap (λ (w : WordFact). is_parted touches (pos k) w) index ∙ there) ∙ index,
          others (k + 1) there
              (ap (λ (w : WordFact). is_parted touches (pos (k + 1)) w) count ∙ (ap touches back ∙ here))
              ∙ count,
        );
  }

-- the words of a span
pub in_span_is : (start length k : ℕ) → is_in_span (pos start) length (pos k) ≡ true
    → (start ≤ k) × (k < start + length)
in_span_is start length k is =
    let both = and_parts (int_le (pos start) (pos k)) (int_lt (pos k) (pos start +ℤ pos length)) is in
    let low = int_le-true (pos start) (pos k) both.0 in
    let high = int_lt-true (pos k) (pos start +ℤ pos length) both.1 in
    (omega (arith, ints, low), omega (arith, ints, high))

-- so it is where a number may have been stored in some words of an array
pub array_spared : (P : ℕ → Type 0) (w count start length : ℕ) (q : Ends) (old : Facts) → IsRange q → w ≤ start
    → start + length ≤ w + count → ((n : ℕ) → n < count → IsNumber old (w + n) full)
    → NumbersStay P old (changed (on_span (pos start) length (Widen q.lo q.hi)) old)
array_spared P w count start length q old ranged low high known =
    let change = on_span (pos start) length (Widen q.lo q.hi) in
    numbers_spared P (is_in_span (pos start) length) old (changed change old)
    (λ k test.
    let inside = in_span_is start length k test in
    let before = inside.0 in
    let after = inside.1 in
    let at : w + (k - w) ≡ k = omega (arith, low, before) in
    let is = subst (λ (n : ℕ). IsNumber old n full) at (known (k - w) (omega (arith, low, high, before, after))) in
    (is, full_words_stay_full q old (pos start) (pos k) length ranged is))
    (λ k test whole. other_words_stay change old (pos k) test whole)
