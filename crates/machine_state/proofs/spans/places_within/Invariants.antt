use Rattle.std.proofs.Common.{◌≡◌, ℕ, ◌<◌, take}
use Rattle.std.specs.List.{list_any}
use Rattle.machine_state.specs.declared.spans.Stretch.{Stretch}
use Rattle.machine_state.specs.Covering.{covered}
use Rattle.machine_state.specs.Spans.{stretches_over}
use Rattle.machine_state.specs.Stretches.{stretch_view}
use Rattle.machine_state.proofs.spans.places_within.Given as goal

-- those so far are covered
abbrev pub invariant-loop-stretch : goal.invariant-loop-stretch
invariant-loop-stretch l = (place : ℕ) → place < l.end → covered l.spans.items place
    ≡ list_any (λ (s : Stretch). stretches_over (stretch_view s) place) (take l.stretch-index l.stretches)
