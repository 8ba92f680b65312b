use Rattle.std.proofs.Common.{◌≡◌, ◌++◌, drop}
use Rattle.std.specs.Prelude.{flat_map}
use Rattle.machine_state.specs.BranchShares.{end_named}
use Rattle.joins.proofs.share.ends_of.Given as goal

-- those so far and those of the rest are all
abbrev pub invariant-loop-row : goal.invariant-loop-row
invariant-loop-row l =
    l.ends.items ++ flat_map (end_named l.base l.addresses) (drop l.row-index l.rows)
    ≡ flat_map (end_named l.base l.addresses) l.rows
