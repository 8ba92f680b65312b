use Rattle.std.proofs.Common.{◌≡◌, ◌+◌, ◌-◌}
use Rattle.machine_state.specs.Spans.{all_places}
use Rattle.machine_state.proofs.TaggedCells.{is_defined}
use Rattle.machine_state.proofs.cells.are_defined.Given as goal

-- what is left decides
abbrev pub invariant-loop-k : goal.invariant-loop-k
invariant-loop-k l =
    let test = is_defined l.bytes l.tags in
    all_places test l.place l.count ≡ all_places test (l.place + l.k) (l.count - l.k)
