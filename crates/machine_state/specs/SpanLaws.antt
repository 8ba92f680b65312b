-- Spans in normal form cover the places that pass the test.
use Rattle.std.specs.Prelude.{◌≡◌, ℕ, Bool, nat_lt, ◌&&◌}
use Rattle.std.specs.List.{list_any}
use Rattle.machine_state.specs.Holding.{covers}
use Rattle.machine_state.specs.Spans.{runs}

abbrev pub RunsCoverTheTest : Type 0
RunsCoverTheTest = (test : ℕ → Bool) (n place : ℕ)
    → list_any (λ span. covers span place) (runs test 0 n) ≡ (nat_lt place n && test place)
