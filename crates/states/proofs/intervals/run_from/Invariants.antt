use Rattle.std.proofs.Common.{◌≡◌, ℤ, ◌≤ℤ◌, length}
use Rattle.module_format.specs.Order.{InOrder, least_word}
use Rattle.module_format.specs.Pars.{IntervalKeeps, behind_interval}
use Rattle.certificate.specs.Rights.{is_among}
use Rattle.states.proofs.intervals.run_from.Given as goal

abbrev pub invariant-loop-first : goal.invariant-loop-first
invariant-loop-first l = record {
  order : InOrder IntervalKeeps behind_interval least_word l.rest;
  later : (k : ℤ) → l.word ≤ℤ k → is_among l.rest k ≡ is_among l.intervals k;
}

abbrev pub decreases-loop-first : goal.decreases-loop-first
decreases-loop-first l = length l.rest
