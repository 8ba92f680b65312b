use Rattle.std.proofs.Common.{◌≡◌}
use Rattle.found_parts.specs.Asked.{holds, first_failing}
use Rattle.found_parts.proofs.asked.first_failing.Given as goal

abbrev pub invariant-loop-number : goal.invariant-loop-number
invariant-loop-number l = l.found ≡ first_failing (holds l.asked) l.first l.number
