-- The result of an operation of one word is a word, and it lies in the range of the results.
use Rattle.std.proofs.Common.{◌≡◌, Some, IsSomeAnd, ℤ, subst}
use Rattle.std.proofs.lemmas.Option.{same_Some}
use Rattle.word_arithmetic.specs.Word.{word_not}
use Rattle.word_arithmetic.specs.Range.{Ends, InRange, IsRange, not_range}
use Rattle.word_arithmetic.specs.Unary.{unary_computed, unary_result_range, UnaryGivesWords, UnaryHolds}
use Rattle.word_arithmetic.specs.declared.unary.Unary.{Unary}
use Rattle.word_arithmetic.specs.declared.unary.Unary.TheVariants as unary
use Rattle.word_arithmetic.proofs.EndsLaws.{member_fits}
use Rattle.word_arithmetic.proofs.BitLaws.{not_fits, not_holds}
use Rattle.word_arithmetic.proofs.BinaryLaws.{words_in}

-- the results of words are words
pub unary_gives_words : UnaryGivesWords
unfolding unary_computed
unary_gives_words unary.Not x f = not_fits x f

-- the range of each operation holds its results
results_in : (op : Unary) (r t : Ends) → IsRange r → unary_result_range op r ≡ Some t → (x : ℤ) → InRange r x
    → IsSomeAnd (unary_computed op x) (InRange t)
unfolding unary_computed unary_result_range
results_in unary.Not r t p h x m = subst (λ u. InRange u (word_not x)) (same_Some (not_range r) t h) (not_holds r x p m)

-- the results of members are words in the range
pub unary_holds : UnaryHolds
unary_holds op r t p h x m =
    words_in (unary_computed op x) t (unary_gives_words op x (member_fits r x p m)) (results_in op r t p h x m)
