use Rattle.std.proofs.Common.{◌≡◌, ◌+◌, ◌-◌, length}
use Rattle.machine_state.specs.LocalStep.{copied}
use Rattle.machine_state.specs.Tagged.{tagged_cells}
use Rattle.machine_state.proofs.cells.copy_up.Given as goal

-- what was copied so far is the end of the block
abbrev pub invariant-loop-k : goal.invariant-loop-k
invariant-loop-k l =
    let before = tagged_cells l.fn.bytes l.fn.tags in
    let left = l.count - l.k in
    (tagged_cells l.bytes l.tags ≡ copied before (l.source + left) (l.to + left) l.k before)
    × (length l.tags ≡ length l.bytes)
