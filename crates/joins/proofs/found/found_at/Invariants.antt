use Rattle.std.proofs.Common.{◌≡◌, map, drop}
use Rattle.module_format.specs.Contents.{par_of}
use Rattle.machine_state.specs.JoinLookups.{found_from}
use Rattle.joins.proofs.found.found_at.Given as goal

-- it is among the rest
abbrev pub invariant-loop-row : goal.invariant-loop-row
invariant-loop-row l =
    found_from l.target 0 (map par_of l.tables.pars.items)
    ≡ found_from l.target l.row (map par_of (drop l.row l.tables.pars.items))
