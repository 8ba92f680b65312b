-- What an arrival and an acknowledgement are in the definitions.
use Rattle.std.specs.Prelude.{◌≡◌, ◌&&◌, ◌||◌, Bool, false, if◌then◌else◌, is_some, is_none, Option, Some, None}
use Rattle.std.specs.Prelude.{Result, Ok, Err}
use Rattle.machine_state.specs.declared.link.InputLink.{InputLink}
use Rattle.machine_state.specs.declared.link.OutputLink.{OutputLink}
use Rattle.machine_state.specs.World.{World}
use Rattle.machine_state.specs.Turn.{Effect, taken, kept, busy, acknowledged, ignored, Turn, answered}
use Rattle.traffic.specs.declared.links.Arrival.{Arrival}
use Rattle.traffic.specs.declared.links.Arrival.TheVariants.{Taken, Kept, Busy}

abbrev pub effect_of_arrival : Arrival → Effect
effect_of_arrival Taken = taken
effect_of_arrival Kept = kept
effect_of_arrival Busy = busy

abbrev pub acknowledged_if : Bool → Effect
acknowledged_if goes_on = if goes_on then acknowledged else ignored

-- By the result: this is the turn of the event, which had this effect; or memory ran out, and nothing changed.
abbrev pub IsTurn : {A E : Type 0} → (A → Effect) → World → World → Result A E → Turn → Type 0
IsTurn effect before after (Ok answer) turn = turn ≡ answered (effect answer) after
IsTurn effect before after (Err e) turn = after ≡ before

-- whether a byte that arrives may make a process ready: one waits for it, or has enabled the link and can have it
abbrev pub may_wake : Option InputLink → Bool
may_wake None = false
may_wake (Some link) = is_some link.waiting || is_none link.kept && is_some link.enabled

-- whether a sender waits for the acknowledgement
abbrev pub has_sender : Option OutputLink → Bool
has_sender None = false
has_sender (Some link) = is_some link.waiting
