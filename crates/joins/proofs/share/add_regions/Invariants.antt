use Rattle.std.proofs.Common.{◌≡◌, ◌++◌, map, drop}
use Rattle.std.specs.Prelude.{flat_map}
use Rattle.machine_state.specs.BranchShares.{region_of}
use Rattle.machine_state.specs.Stretches.{stretch_view}
use Rattle.joins.proofs.share.add_regions.Given as goal

-- those so far and those of the rest are all
abbrev pub invariant-loop-number : goal.invariant-loop-number
invariant-loop-number l =
    map stretch_view l.stretches.items
    ++ flat_map (region_of l.parameters l.addresses) (drop l.number-index l.numbers)
    ≡ map stretch_view l.initial.stretches.items ++ flat_map (region_of l.parameters l.addresses) l.numbers
