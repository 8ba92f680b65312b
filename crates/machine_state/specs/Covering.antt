-- Which places spans cover, and the span from one place up to another.
use Rattle.std.specs.Prelude.{ℕ, Bool, nat_lt, if◌then◌else◌, List, [], ◌∷◌}
use Rattle.std.specs.List.{list_any}
use Rattle.machine_state.specs.declared.holding.Span.{Span}
use Rattle.machine_state.specs.Holding.{covers}

-- whether one of the spans covers the place
abbrev pub covered : List Span → ℕ → Bool
covered spans place = list_any (λ span. covers span place) spans

-- the places from one up to another, if there are any
abbrev pub piece : ℕ → ℕ → List Span
piece start end = if nat_lt start end then record { start = start; end = end } ∷ [] else []
