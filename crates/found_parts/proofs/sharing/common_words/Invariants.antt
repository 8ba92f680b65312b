use Rattle.std.proofs.Common.{◌≡◌, drop}
use Rattle.found_parts.specs.Sharing.{meeting}
use Rattle.found_parts.specs.Firsts.{first_of}
use Rattle.found_parts.proofs.sharing.common_words.Given as goal

abbrev pub invariant-loop-other : goal.invariant-loop-other
invariant-loop-other l =
    first_of (λ other. first_of (meeting other) l.intervals) l.others
    ≡ first_of (λ other. first_of (meeting other) l.intervals) (drop l.other-index l.others)
