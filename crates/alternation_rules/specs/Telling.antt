-- What the functions of the code return for an alternation's end, and what they want of a state.
use Rattle.std.specs.Prelude.{◌≡◌, ℕ, List, Result, Ok, Err}
use Rattle.states.specs.declared.rule.Rule.{Rule}
use Rattle.rulings.specs.Rulings.{Ruling, selects, breaks}

-- a process goes on at one of these labels, or a rule is broken
abbrev pub Selects : {A : Type 0} → Result A Rule → List ℕ → Ruling → Type 0
Selects (Ok x) labels ruling = ruling ≡ selects labels
Selects (Err broken) labels ruling = ruling ≡ breaks broken
