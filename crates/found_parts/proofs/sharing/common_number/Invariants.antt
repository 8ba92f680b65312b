use Rattle.std.proofs.Common.{◌≡◌, drop}
use Rattle.found_parts.specs.Sharing.{listed}
use Rattle.found_parts.specs.Firsts.{first_of}
use Rattle.found_parts.proofs.sharing.common_number.Given as goal

abbrev pub invariant-loop-other : goal.invariant-loop-other
invariant-loop-other l =
    first_of (listed l.numbers) l.others
    ≡ first_of (listed l.numbers) (drop l.other-index l.others)
