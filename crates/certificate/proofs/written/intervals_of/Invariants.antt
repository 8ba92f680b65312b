use Rattle.std.proofs.Common.{◌≡◌, ◌||◌, ℤ, map, length}
use Rattle.std.specs.List.{list_any}
use Rattle.module_format.specs.Contents.{Branch, branch_of, par_of}
use Rattle.certificate.specs.Rights.{is_among}
use Rattle.certificate.specs.Starting.{is_written}
use Rattle.certificate.proofs.written.intervals_of.Given as goal

-- what is gathered has the words of the branches that are passed
abbrev pub invariant-loop-branch : goal.invariant-loop-branch
invariant-loop-branch l =
    (k : ℤ) → (is_among l.intervals.items k || list_any (λ (b : Branch). is_among b.writes k) (map branch_of l.rest))
    ≡ is_written (par_of l.par) k

abbrev pub decreases-loop-branch : goal.decreases-loop-branch
decreases-loop-branch l = length l.rest
