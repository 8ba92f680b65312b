use Rattle.std.proofs.Common.{◌≡◌, drop}
use Rattle.found_parts.specs.Sharing.{meeting}
use Rattle.found_parts.specs.Firsts.{first_of}
use Rattle.found_parts.proofs.sharing.words_with.Given as goal

abbrev pub invariant-loop-interval : goal.invariant-loop-interval
invariant-loop-interval l =
    first_of (meeting l.other) l.intervals
    ≡ first_of (meeting l.other) (drop l.interval-index l.intervals)
