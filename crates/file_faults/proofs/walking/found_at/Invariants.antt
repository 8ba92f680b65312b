use Rattle.std.proofs.Common.{◌≡◌}
use Rattle.file_faults.specs.Walking.{walked}
use Rattle.file_faults.proofs.walking.found_at.Given as goal

abbrev pub invariant-loop-number : goal.invariant-loop-number
invariant-loop-number l = l.found ≡ walked l.bytes l.target l._number
