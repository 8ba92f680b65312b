use Rattle.std.proofs.Common.{◌≡◌, ◌+◌, ◌-◌}
use Rattle.machine_state.specs.Access.{may}
use Rattle.machine_state.specs.Spans.{all_places}
use Rattle.machine_state.specs.Views.{holding_view}
use Rattle.machine_state.proofs.holding.Holding.may_all.Given as goal

-- what is left decides
abbrev pub invariant-loop-k : goal.invariant-loop-k
invariant-loop-k l =
    let test = may l.access (holding_view l.self) in
    all_places test l.place l.count ≡ all_places test (l.place + l.k) (l.count - l.k)
