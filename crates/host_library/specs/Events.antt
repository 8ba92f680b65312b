-- The events that a host writes: our own choice.
use Rattle.std.specs.Prelude.{◌≡◌, ℕ, ◌==◌, Bool, true, false, if◌then◌else◌, List, map, take}
use Rattle.std.specs.Prelude.{Option, Some, None, option_map, slice_get}
use Rattle.machine_state.specs.declared.event.Event.{Event}
use Rattle.machine_state.specs.declared.event.Event.TheVariants.{Step, Arrive, Acknowledge}
use Rattle.machine_state.specs.declared.link.Link.{Link}
use Rattle.machine_state.specs.declared.link.Link.TheVariants.{Zero, One, Two, Three}
use Rattle.host_library.specs.declared.events.HostEvent.{HostEvent}
use Rattle.host_library.specs.declared.events.TheConstants.{STEP, ARRIVE, ACKNOWLEDGE}

-- the link of a number
abbrev pub link_numbered : ℕ → Option Link
link_numbered number =
    if number == 0 then Some Zero else
    if number == 1 then Some One else
    if number == 2 then Some Two else
    if number == 3 then Some Three else None

-- what 0 and 1 say
abbrev pub flag_numbered : ℕ → Option Bool
flag_numbered number = if number == 0 then Some false else if number == 1 then Some true else None

-- the event that a host writes so, if it is one
abbrev pub event_of : HostEvent → Option Event
event_of e =
    if e.kind == STEP then option_map (λ slice. Step slice e.pick) (flag_numbered e.slice) else
    if e.kind == ARRIVE then option_map (λ link. Arrive link e.byte) (link_numbered e.link) else
    if e.kind == ACKNOWLEDGE then option_map Acknowledge (link_numbered e.link) else None

-- each of them is an event, and these are they
abbrev pub AreEventsOf : List HostEvent → List Event → Type 0
AreEventsOf given events = map event_of given ≡ map Some events

-- The one of this index is no event, and it is the first that is none.
pub record IsNoEvent (given : List HostEvent) (index : ℕ) : Type 0 where
  pub before : List Event
  pub are_events : AreEventsOf (take index given) before
  pub event : HostEvent
  pub found : slice_get given index ≡ Some event
  pub none : event_of event ≡ None
