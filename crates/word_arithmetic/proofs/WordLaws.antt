-- Laws on words and on the results of checked operations.
use Rattle.std.proofs.Common.{◌≡◌, Bool, true, false, cond, Option, Some, None, refl, ap, ◌∙◌, arith, ℤ, pos, negsuc}
use Rattle.std.proofs.Common.{FitsSigned}
use Rattle.std.specs.Int.{w32}
use Rattle.std.proofs.lemmas.Int.{ints}
use Rattle.std.proofs.lemmas.Bool.{ltb-true, lt-ltb}
use Rattle.std.proofs.lemmas.Option.{cond_some}
use Rattle.word_arithmetic.specs.Word.{is_word, checked, WordsFit, WordsLieBetween, CheckedGivesWords}

-- ---- options

-- what a test says of the option that it lets through
pub then_some : {X : Type 0} (b : Bool) (o : Option X) (t : X) → cond b o None ≡ Some t → (b ≡ true) × (o ≡ Some t)
then_some true o t e = (refl, e)
then_some false o t e = cc

-- ---- words

-- a word has 32 bits
pub is_word_out : (z : ℤ) → is_word z ≡ true → FitsSigned w32 z
is_word_out (pos n) e = record { sfits = ltb-true n 2147483648 e }
is_word_out (negsuc n) e = record { sfits = ltb-true n 2147483648 e }

-- a number of 32 bits is a word
pub is_word_in : (z : ℤ) → FitsSigned w32 z → is_word z ≡ true
is_word_in (pos n) f = lt-ltb n 2147483648 f.sfits
is_word_in (negsuc n) f = lt-ltb n 2147483648 f.sfits

-- the checked result is a number of 32 bits itself
pub checked_fits : (z : ℤ) → FitsSigned w32 z → checked z ≡ Some z
checked_fits z f = ap (λ b. cond b (Some z) None) (is_word_in z f)

-- a number that is no word has no checked result
pub not_checked : (z : ℤ) → is_word z ≡ false → checked z ≡ None
not_checked z e = ap (λ b. cond b (Some z) None) e

-- ---- the laws

-- the words are the numbers of 32 bits
pub words_fit : WordsFit
words_fit z = (is_word_out z, is_word_in z)

-- they lie between the least and the greatest
pub words_lie_between : WordsLieBetween
words_lie_between z = (
  (λ h. let f = is_word_out z h in (omega (arith, ints), omega (arith, ints))),
  (λ p. let a = p.0 in let b = p.1 in is_word_in z (omega (arith, ints))),
)

-- a checked result is the number itself, and a word
pub checked_gives_words : CheckedGivesWords
checked_gives_words z v = (
  (λ e. let s = cond_some (is_word z) z v e in (is_word_out z s.0, s.1)),
  (λ p. checked_fits z p.0 ∙ ap Some p.1),
)
