-- What a run asks for are bytes, and so it is made of events that can happen.
use Rattle.std.specs.Prelude.{◌≡◌, ℕ, Bool, List}
use Rattle.module_format.specs.Contents.{Contents}
use Rattle.module_format.specs.Order.{IsBytes}
use Rattle.machine_state.specs.declared.event.Event.{Event}
use Rattle.machine_state.specs.declared.link.Link.{Link}
use Rattle.machine_state.specs.Happens.{world_after}
use Rattle.link_runs.specs.ByLink.{ByLink, of_link}
use Rattle.link_runs.specs.FirstInFirstOut.{Supply, RunMoment, IsRun}
use Rattle.link_runs.specs.RunLaws.{WasAsked}
use Rattle.verifier.specs.Headline.{AreEvents}

-- Of what the links had to give, this was asked for up to a moment, and each of it is a byte.
pub record AsksForBytes (inputs : ByLink Supply) (s : RunMoment) : Type 0 where
  pub asked : ByLink (List ℕ)
  pub was_asked : (link : Link) → WasAsked (of_link inputs link) (of_link asked link) (of_link s.left link)
  pub are_bytes : (link : Link) → IsBytes (of_link asked link)

-- Events that can happen lead to the world of this moment.
pub record CanHappen (m : Contents) (s : RunMoment) : Type 0 where
  pub events : List Event
  pub are : AreEvents events
  pub world : s.world ≡ world_after m events

-- A run that asks for bytes can happen: so what `RunsWell` says of all events holds wherever it comes to.
abbrev pub RunsOfBytesCanHappen : Type 0
RunsOfBytesCanHappen = (m : Contents) (inputs : ByLink Supply) (writers : ByLink Bool) (n : ℕ) (s : RunMoment)
    → IsRun m inputs writers n s → AsksForBytes inputs s → CanHappen m s
