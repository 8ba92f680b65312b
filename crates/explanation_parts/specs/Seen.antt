-- A state in memory that may be there.
use Rattle.std.specs.Prelude.{Option, option_map}
use Rattle.std.specs.Borrow.{Bor}
use Rattle.states.specs.declared.state.State.{State as InMemory}
use Rattle.states.specs.State.{State}
use Rattle.states.specs.Views.{state_of}

-- what is known, if there is a state
abbrev pub seen : Option (Bor InMemory) → Option State
seen state = option_map (λ s. state_of s.now) state
