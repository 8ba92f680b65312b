use Rattle.std.proofs.Common.{◌≡◌, length}
use Rattle.machine_state.specs.LocalStep.{copied}
use Rattle.machine_state.specs.Tagged.{tagged_cells}
use Rattle.machine_state.proofs.cells.copy_down.Given as goal

-- what was copied so far, of bytes and tags of one length
abbrev pub invariant-loop-k : goal.invariant-loop-k
invariant-loop-k l =
    let before = tagged_cells l.fn.bytes l.fn.tags in
    (tagged_cells l.bytes l.tags ≡ copied before l.source l.to l.k before)
    × (length l.tags ≡ length l.bytes)
