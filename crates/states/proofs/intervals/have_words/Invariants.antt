use Rattle.std.proofs.Common.{◌≡◌, ℤ, ◌≤ℤ◌, ◌<ℤ◌, ◌||◌, true}
use Rattle.module_format.specs.Order.{InOrder, least_word}
use Rattle.module_format.specs.Pars.{IntervalKeeps, behind_interval}
use Rattle.certificate.specs.Rights.{is_among}
use Rattle.states.proofs.Comparisons.{ahead}
use Rattle.states.proofs.intervals.have_words.Given as goal

abbrev pub invariant-loop-word : goal.invariant-loop-word
invariant-loop-word l = record {
  begins : l.first ≤ℤ l.word;
  order : InOrder IntervalKeeps behind_interval least_word l.ones;
  others : InOrder IntervalKeeps behind_interval least_word l.rest;
  same : (k : ℤ) → l.word ≤ℤ k → is_among l.ones k ≡ is_among l.intervals k;
  same_others : (k : ℤ) → l.word ≤ℤ k → is_among l.rest k ≡ is_among l.others k;
  so_far : (k : ℤ) → l.first ≤ℤ k → k <ℤ l.word → is_among l.intervals k || is_among l.others k ≡ true;
}

abbrev pub decreases-loop-word : goal.decreases-loop-word
decreases-loop-word l = ahead l.word
