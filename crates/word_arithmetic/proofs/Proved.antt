-- What is proved of words, operations and ranges.
use Rattle.word_arithmetic.proofs.WordLaws.{words_fit, words_lie_between, checked_gives_words}
use Rattle.word_arithmetic.proofs.BinaryLaws.{binary_gives_words, binary_holds, binary_fails}
use Rattle.word_arithmetic.proofs.UnaryLaws.{unary_gives_words, unary_holds}
use Rattle.word_arithmetic.proofs.EndsLaws.{words_in_order_are_ranges, members_lie_between}
use Rattle.word_arithmetic.proofs.TestLaws.{comparisons_are_tests}

pub ruleset laws = (
  words_fit,
  words_lie_between,
  checked_gives_words,
  binary_gives_words,
  unary_gives_words,
  binary_holds,
  unary_holds,
  binary_fails,
  words_in_order_are_ranges,
  members_lie_between,
  comparisons_are_tests,
)
