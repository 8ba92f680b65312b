use Rattle.std.proofs.Common.{◌≡◌, ◌+◌, length}
use Rattle.certificate.specs.Siblings.{have_common_end}
use Rattle.certificate.proofs.SiblingLaws.{EndsRise}
use Rattle.certificate.proofs.siblings.have_common_end.Given as goal

-- what is left has the same in common
abbrev pub invariant-loop-one : goal.invariant-loop-one
invariant-loop-one l = record {
  left : EndsRise l.left;
  right : EndsRise l.right;
  same : have_common_end l.left l.right ≡ have_common_end l.ends l.others;
}

abbrev pub decreases-loop-one : goal.decreases-loop-one
decreases-loop-one l = length l.left + length l.right
