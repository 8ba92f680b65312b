use Rattle.std.proofs.Common.{◌≡◌, map, drop}
use Rattle.module_format.specs.Contents.{branch_of}
use Rattle.found_parts.specs.Firsts.{among}
use Rattle.found_parts.specs.Sharing.{shared_with}
use Rattle.found_parts.proofs.sharing.shared_among.Given as goal

abbrev pub invariant-loop-other : goal.invariant-loop-other
invariant-loop-other l =
    among (shared_with (branch_of l.branch)) l.count (map branch_of l.others)
    ≡ among (shared_with (branch_of l.branch)) l.left (map branch_of (drop l.other-index l.others))
