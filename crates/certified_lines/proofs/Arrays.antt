-- What is known of several words together, and what is left of each.
use Rattle.std.proofs.Common.{◌≡◌, ℕ, zero, suc, ◌+◌, ◌*◌, ◌/◌, ◌==◌, nat_abs, ℤ, pos, ◌+ℤ◌, ◌-ℤ◌, ◌≤ℤ◌}
use Rattle.std.proofs.Common.{Bool, true, false, cond, FitsSigned, refl, sym, ap, ◌∙◌, arith}
use Rattle.std.specs.Prelude.{int_lt}
use Rattle.std.specs.Int.{w32, int_min, int_max}
use Rattle.std.proofs.lemmas.Bool.Decides.{nat_tests}
use Rattle.std.proofs.lemmas.Int.{ints}
use Rattle.word_arithmetic.specs.Word.{least_word, greatest_word}
use Rattle.word_arithmetic.specs.Range.{Ends, IsRange, full}
use Rattle.states.specs.declared.known.WordFact.{WordFact}
use Rattle.states.specs.declared.known.WordFact.TheVariants.{Alone}
use Rattle.states.specs.declared.span.Leaving.TheVariants.{Widen}
use Rattle.states.specs.declared.span.Together.{Together}
use Rattle.states.specs.Spans.{is_in_span, together, with_one, of_none, left_of}
use Rattle.states.specs.State.{Facts, plain}
use Rattle.rulings.specs.Reach.{word_of_byte, words_touched}
use Rattle.rulings.specs.Pointers.{any_of, word_read, frame_read}
use Rattle.local_rules.specs.WordRules.{number_in}
use Rattle.certified_lines.specs.Arrays.{AreNumbersIn, last_byte, ElementsAreNumbers, SpansAreOfWords}
use Rattle.certified_lines.specs.Arrays.{AnyOfNumbersIsOne, FullWordsStayFull, OtherWordsStay}

-- ---- the least and the greatest of two

min_by : (x y : ℤ) (less : Bool) → int_lt y x ≡ less → y ≤ℤ x → cond less y x ≡ y
min_by x y true is up = refl
min_by x y false is up = grind (arith, ints)

min_is : (x y : ℤ) → y ≤ℤ x → int_min x y ≡ y
min_is x y up = min_by x y (int_lt y x) refl up

max_by : (x y : ℤ) (less : Bool) → int_lt y x ≡ less → x ≤ℤ y → cond less x y ≡ y
max_by x y true is up = grind (arith, ints)
max_by x y false is up = refl

max_is : (x y : ℤ) → x ≤ℤ y → int_max x y ≡ y
max_is x y up = max_by x y (int_lt y x) refl up

least_by : (x y : ℤ) (less : Bool) → int_lt y x ≡ less → x ≤ℤ y → cond less y x ≡ x
least_by x y true is up = grind (arith, ints)
least_by x y false is up = refl

least_is : (x y : ℤ) → x ≤ℤ y → int_min x y ≡ x
least_is x y up = least_by x y (int_lt y x) refl up

greatest_by : (x y : ℤ) (less : Bool) → int_lt y x ≡ less → y ≤ℤ x → cond less x y ≡ x
greatest_by x y true is up = refl
greatest_by x y false is up = grind (arith, ints)

greatest_is : (x y : ℤ) → y ≤ℤ x → int_max x y ≡ x
greatest_is x y up = greatest_by x y (int_lt y x) refl up

low_word : (v : ℤ) → FitsSigned w32 v → least_word ≤ℤ v
low_word v fits = omega (arith, ints)

high_word : (v : ℤ) → FitsSigned w32 v → v ≤ℤ greatest_word
high_word v fits = omega (arith, ints)

-- ---- words together

-- what is known of words that are such numbers
abbrev pub numbers : Ends → Together
numbers r = record { lo = r.lo; hi = r.hi; are_numbers = true; are_alone = true }

pub all_numbers : (r : Ends) (facts : Facts) (first count : ℕ) → IsRange r → AreNumbersIn r facts first count
    → together facts (pos first) (suc count) ≡ numbers r
all_numbers r facts first zero is each =
    ap (λ (f : WordFact). with_one f of_none) (each 0 (omega arith))
    ∙ rw (min_is greatest_word r.lo (high_word r.lo is.lo_fits), max_is least_word r.hi (low_word r.hi is.hi_fits)) refl
all_numbers r facts first (suc count) is each =
    ap (λ (f : WordFact). with_one f (together facts (pos first) (suc count))) (each (suc count) (omega arith))
    ∙ (ap (λ (t : Together). with_one (Alone (number_in r)) t)
    (all_numbers r facts first count is (λ n up. each n (omega (arith, up))))
    ∙ rw (min_is r.lo r.lo (grind (arith, ints)), max_is r.hi r.hi (grind (arith, ints))) refl)

pub any_of_numbers_is_one : AnyOfNumbersIsOne
any_of_numbers_is_one r facts first count is each = ap any_of (all_numbers r facts first count is each)

-- ---- what is left

widened_full : (r : Ends) → IsRange r → left_of (Widen r.lo r.hi) (number_in full) ≡ number_in full
widened_full r is =
    rw (
      least_is least_word r.lo (low_word r.lo is.lo_fits),
      greatest_is greatest_word r.hi
          (high_word r.hi is.hi_fits),
    ) refl

stays_by : (r : Ends) (touched : Bool) → IsRange r
    → cond touched (Alone (left_of (Widen r.lo r.hi) (number_in full))) (Alone (number_in full))
    ≡ Alone (number_in full)
stays_by r true is = ap (λ f. Alone f) (widened_full r is)
stays_by r false is = refl

pub full_words_stay_full : FullWordsStayFull
full_words_stay_full r facts first k count is word = rw word (stays_by r (is_in_span first count k) is)

pub other_words_stay : OtherWordsStay
other_words_stay change facts k untouched whole = rw (untouched, whole) refl

-- ---- words of the frame that a pointer may lead to

word_is : (word : ℕ) → word_of_byte (pos (4 * word)) ≡ pos word
word_is word =
    let same : 4 * word / 4 ≡ word = omega arith in
    ap (λ (n : ℕ). pos n) same

-- how many words from the first one to the last one
touched_by : (first count : ℕ) (last : ℤ) → word_of_byte last ≡ pos (first + count)
    → nat_abs (word_of_byte last -ℤ word_of_byte (pos (4 * first))) + 1 ≡ suc count
touched_by first count last is =
    let distance : pos (first + count) -ℤ pos first ≡ pos count = grind (arith, ints) in
    let more : count + 1 ≡ suc count = omega arith in
    rw (is, word_is first, distance) more

read_touched : (first count : ℕ) → words_touched (pos (4 * first)) (last_byte first count +ℤ pos 1) ≡ suc count
read_touched first count =
    let end : last_byte first count +ℤ pos 1 -ℤ pos 1 ≡ last_byte first count = grind (arith, ints) in
    touched_by first count (last_byte first count +ℤ pos 1 -ℤ pos 1)
    (ap word_of_byte end ∙ word_is (first + count))

stored_touched : (first count : ℕ) → words_touched (pos (4 * first)) (last_byte first count +ℤ pos 4) ≡ suc count
stored_touched first count =
    let end : last_byte first count +ℤ pos 4 -ℤ pos 1 ≡ pos (4 * (first + count) + 3) = grind (arith, ints) in
    let same : (4 * (first + count) + 3) / 4 ≡ first + count = omega arith in
    touched_by first count (last_byte first count +ℤ pos 4 -ℤ pos 1)
    (ap word_of_byte end ∙ ap (λ (n : ℕ). pos n) same)

pub spans_are_of_words : SpansAreOfWords
spans_are_of_words = record { first = word_is; touched = stored_touched }

frame_read_is : (r : Ends) (facts : Facts) (first count : ℕ) → IsRange r → AreNumbersIn r facts first count
    → frame_read facts (pos first) (suc count) ≡ number_in r
frame_read_is r facts first zero is each =
    let none : first + 0 ≡ first = omega arith in
    ap (λ (k : ℕ). plain (facts (pos k))) (sym none) ∙ ap plain (each 0 (omega arith))
frame_read_is r facts first (suc count) is each =
    let several : (suc (suc count) == 1) ≡ false = grind (arith, nat_tests) in
    ap (λ (one : Bool). cond one (plain (facts (pos first))) (any_of (together facts (pos first) (suc (suc count)))))
    several
    ∙ any_of_numbers_is_one r facts first (suc count) is each

pub elements_are_numbers : ElementsAreNumbers
unfolding word_read
elements_are_numbers m s r first count is each =
    ap (λ (k : ℤ). frame_read s.frame k (words_touched (pos (4 * first)) (last_byte first count +ℤ pos 1)))
    (word_is first)
    ∙ (ap (λ (n : ℕ). frame_read s.frame (pos first) n) (read_touched first count)
    ∙ frame_read_is r s.frame first count is each)

pub ruleset arrays = (
  any_of_numbers_is_one,
  full_words_stay_full,
  other_words_stay,
  elements_are_numbers,
  spans_are_of_words,
)
