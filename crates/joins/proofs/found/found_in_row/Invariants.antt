use Rattle.std.proofs.Common.{◌≡◌, map, drop}
use Rattle.module_format.specs.Contents.{branch_of}
use Rattle.machine_state.specs.JoinLookups.{found_in_row}
use Rattle.joins.proofs.found.found_in_row.Given as goal

-- it is among the rest
abbrev pub invariant-loop-number : goal.invariant-loop-number
invariant-loop-number l =
    found_in_row l.target 0 (map branch_of l.branches)
    ≡ found_in_row l.target l.number (map branch_of (drop l.number l.branches))
