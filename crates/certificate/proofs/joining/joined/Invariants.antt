use Rattle.std.proofs.Common.{◌≡◌, ◌||◌, ℤ, length}
use Rattle.certificate.specs.Rights.{is_among}
use Rattle.certificate.proofs.WordLaws.{Joining}
use Rattle.certificate.proofs.joining.joined.Given as goal

-- what is joined has the words of the intervals that are passed
abbrev pub invariant-loop-interval : goal.invariant-loop-interval
invariant-loop-interval l = record {
  are : Joining l.joined.items l.rest;
  words : (k : ℤ) → (is_among l.joined.items k || is_among l.rest k) ≡ is_among l.fn.intervals.items k;
}

abbrev pub decreases-loop-interval : goal.decreases-loop-interval
decreases-loop-interval l = length l.rest
