use Rattle.word_arithmetic.proofs.RangesOfRanges.{binary_gives_ranges, unary_gives_ranges}
use Rattle.word_arithmetic.proofs.laws.results_have_ranges_of_words.Goals as goal

pub returns-clause-binary : goal.returns-clause-binary
returns-clause-binary c = binary_gives_ranges

pub returns-clause-unary : goal.returns-clause-unary
returns-clause-unary c = unary_gives_ranges
