use Rattle.std.proofs.Common.{◌≡◌, drop}
use Rattle.found_parts.specs.Firsts.{first_of}
use Rattle.found_parts.specs.Asked.{holds, failing_within}
use Rattle.found_parts.proofs.asked.first_within.Given as goal

abbrev pub invariant-loop-interval : goal.invariant-loop-interval
invariant-loop-interval l =
    first_of (failing_within (holds l.asked)) l.intervals
    ≡ first_of (failing_within (holds l.asked)) (drop l.interval-index l.intervals)
