use Rattle.std.proofs.Common.{◌≡◌, ℤ, drop}
use Rattle.std.specs.Ordering.{int_cmp}
use Rattle.std.specs.BTreeMap.{get}
use Rattle.certificate.specs.Rights.{listed_length}
use Rattle.certificate.specs.Around.{nearer}
use Rattle.certificate.proofs.around.give.Given as goal

-- the words of the channels from this one on have their lengths
abbrev pub invariant-loop-index : goal.invariant-loop-index
invariant-loop-index l = (k : ℤ) → get int_cmp l.lengths k
    ≡ nearer (listed_length (drop l.index l.channels) k) (get int_cmp l.initial.lengths k)
