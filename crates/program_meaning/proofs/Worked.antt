-- What small programs mean, by computing it.
use Rattle.std.proofs.Common.{refl}
use Rattle.word_arithmetic.specs.Binary as binary
use Rattle.program_meaning.specs.WorkedPrograms.{SumsMean, EchoesMean, SendingMeans, WordsMatter}
use Rattle.program_meaning.specs.WorkedPrograms.{NamesMean, BitsMean, ConditionsMean, LoopsAndLinksMean}

pub sums_mean : SumsMean
unfolding binary.computed
sums_mean = record {
  is_sequential = search;
  whole = refl;
  cut = refl;
  no_choice_is_true = refl;
  unheard = refl;
}

pub echoes_mean : EchoesMean
unfolding binary.computed
echoes_mean = record {
  byte = refl;
  nothing_came = refl;
  checked = refl;
  too_great = refl;
  wrapped = refl;
  below = refl;
  not_below = refl;
  stopped = refl;
  hidden = refl;
  element = refl;
  other_element = refl;
  outside = refl;
}

pub sending_means : SendingMeans
unfolding binary.computed
sending_means = record { quotient = refl; remainder = refl; no_turn = refl; one_turn = refl }

pub words_matter : WordsMatter
words_matter = record { no_word = refl; word = refl }

pub names_mean : NamesMean
unfolding binary.computed
names_mean = record {
  constant = refl;
  item = refl;
  behind_table = refl;
  letter = refl;
  byte_set = refl;
  byte_left = refl;
  hidden = refl;
}

pub bits_mean : BitsMean
unfolding binary.computed
bits_mean = record {
  left = refl;
  right = refl;
  too_far = refl;
  and_bits = refl;
  or_bits = refl;
  xor_bits = refl;
  not_bits = refl;
  greatest = refl;
  least = refl;
  negated = refl;
  wrapped = refl;
}

pub conditions_mean : ConditionsMean
unfolding binary.computed
conditions_mean = record {
  equal = refl;
  not_equal = refl;
  less_or_equal = refl;
  all = refl;
  some = refl;
  not_so = refl;
}

pub loops_and_links_mean : LoopsAndLinksMean
unfolding binary.computed
loops_and_links_mean = record {
  below_zero = refl;
  second_link = refl;
}

pub ruleset worked_programs = (
  sums_mean,
  echoes_mean,
  sending_means,
  words_matter,
  names_mean,
  bits_mean,
  conditions_mean,
  loops_and_links_mean,
)
