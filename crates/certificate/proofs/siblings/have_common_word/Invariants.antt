use Rattle.std.proofs.Common.{◌≡◌, ◌+◌, length}
use Rattle.certificate.specs.Siblings.{have_common_word}
use Rattle.certificate.proofs.SiblingLaws.{Rise}
use Rattle.certificate.proofs.siblings.have_common_word.Given as goal

-- what is left has the same in common
abbrev pub invariant-loop-one : goal.invariant-loop-one
invariant-loop-one l = record {
  left : Rise l.left;
  right : Rise l.right;
  same : have_common_word l.left l.right ≡ have_common_word l.intervals l.others;
}

abbrev pub decreases-loop-one : goal.decreases-loop-one
decreases-loop-one l = length l.left + length l.right
