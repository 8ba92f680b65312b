-- What is known of the words of an array where an element is read or stored that may be any of some of them.
use Rattle.std.specs.Prelude.{◌≡◌, ℕ, suc, ◌+◌, ◌*◌, ◌≤◌, ℤ, pos, ◌+ℤ◌, false}
use Rattle.word_arithmetic.specs.Range.{Ends, IsRange, full}
use Rattle.module_format.specs.Contents.{Contents}
use Rattle.module_format.specs.declared.fact.Region.TheVariants as regions
use Rattle.rulings.specs.Reach.{word_of_byte, words_touched}
use Rattle.states.specs.declared.known.WordFact.TheVariants.{Alone}
use Rattle.states.specs.declared.span.Leaving.TheVariants.{Widen}
use Rattle.states.specs.Spans.{on_span, together}
use Rattle.states.specs.State.{State, Facts, Change, changed, is_parted}
use Rattle.rulings.specs.Pointers.{any_of, word_read}
use Rattle.local_rules.specs.WordRules.{number_in}

-- each of so many words from the first one on is a number in this range
abbrev pub AreNumbersIn : Ends → Facts → ℕ → ℕ → Type 0
AreNumbersIn r facts first count =
    (n : ℕ) → n ≤ count → facts (pos first +ℤ pos n) ≡ Alone (number_in r)

-- any of them is one, at least one word
abbrev pub AnyOfNumbersIsOne : Type 0
AnyOfNumbersIsOne = (r : Ends) (facts : Facts) (first count : ℕ) → IsRange r → AreNumbersIn r facts first count
    → any_of (together facts (pos first) (suc count)) ≡ number_in r

-- a word that may be any number may still be any where a number may have been stored
abbrev pub FullWordsStayFull : Type 0
FullWordsStayFull = (r : Ends) (facts : Facts) (first k : ℤ) (count : ℕ) → IsRange r → facts k ≡ Alone (number_in full)
    → changed (on_span first count (Widen r.lo r.hi)) facts k ≡ Alone (number_in full)

-- a word that is not changed, and is in no loop with one that is, is known as before
abbrev pub OtherWordsStay : Type 0
OtherWordsStay = (change : Change) (facts : Facts) (k : ℤ) → change.touches k ≡ false
    → is_parted change.touches k (facts k) ≡ false → changed change facts k ≡ facts k

-- ---- words of the frame that a pointer may lead to

-- the first byte of the word that is so many words behind the first one
abbrev pub last_byte : ℕ → ℕ → ℤ
last_byte first count = pos (4 * (first + count))

-- which of these words is read is a number in the range
abbrev pub ElementsAreNumbers : Type 0
ElementsAreNumbers = (m : Contents) (s : State) (r : Ends) (first count : ℕ) → IsRange r
    → AreNumbersIn r s.frame first count
    → word_read m s regions.Frame (pos (4 * first)) (last_byte first count) ≡ number_in r

-- the words that a store may change are these
pub record SpansAreOfWords : Type 0 where
  pub first : (word : ℕ) → word_of_byte (pos (4 * word)) ≡ pos word
  pub touched : (first count : ℕ) → words_touched (pos (4 * first)) (last_byte first count +ℤ pos 4) ≡ suc count
