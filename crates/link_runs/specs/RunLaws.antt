-- Laws of runs.
use Rattle.std.specs.Prelude.{◌≡◌, ℕ, ◌==◌, ◌++◌, Bool, if◌then◌else◌, List, [], ◌∷◌, length, Some}
use Rattle.std.specs.Prelude.{None}
use Rattle.module_format.specs.Contents.{Contents}
use Rattle.machine_state.specs.declared.event.Event.{Event}
use Rattle.machine_state.specs.declared.event.Event.TheVariants.{Step, Arrive, Acknowledge}
use Rattle.machine_state.specs.declared.link.Link.{Link}
use Rattle.machine_state.specs.Moves.{link_index}
use Rattle.machine_state.specs.Happens.{world_after, emitted_on}
use Rattle.link_runs.specs.ByLink.{ByLink, of_link, with_link}
use Rattle.link_runs.specs.FirstInFirstOut.{Supply, RunMoment, IsRun, IsOver}

-- ---- a run is a list of events

-- the bytes that arrive on a link
abbrev pub arrivals : Link → List Event → List ℕ
arrivals link [] = []
arrivals link (Arrive on byte ∷ es) =
    if link_index on == link_index link then byte ∷ arrivals link es else arrivals link es
arrivals link (Step slice pick ∷ es) = arrivals link es
arrivals link (Acknowledge on ∷ es) = arrivals link es

-- of what a link had to give, these bytes were asked for, and this is left
abbrev pub WasAsked : Supply → List ℕ → Supply → Type 0
WasAsked None bytes left = (bytes ≡ []) × (left ≡ None)
WasAsked (Some all) bytes None = all ≡ bytes
WasAsked (Some all) bytes (Some rest) = all ≡ bytes ++ rest

-- what went out on a link, if it has a writer
abbrev pub written_if : Bool → List ℕ → List ℕ
written_if has_writer bytes = if has_writer then bytes else []

-- The events of a run up to this moment.
pub record HasEvents (m : Contents) (inputs : ByLink Supply) (writers : ByLink Bool) (s : RunMoment) : Type 0 where
  pub events : List Event
  pub world : s.world ≡ world_after m events
  pub arrived : (link : Link) → WasAsked (of_link inputs link) (arrivals link events) (of_link s.left link)
  pub read : (link : Link) → of_link s.read link ≡ length (arrivals link events)
  pub written : (link : Link) → of_link s.written link ≡ written_if (of_link writers link) (emitted_on m link events)

abbrev pub RunsAreMadeOfEvents : Type 0
RunsAreMadeOfEvents = (m : Contents) (inputs : ByLink Supply) (writers : ByLink Bool) (n : ℕ) (s : RunMoment)
    → IsRun m inputs writers n s → HasEvents m inputs writers s

-- ---- one run

abbrev pub OneMomentAfterEachTurn : Type 0
OneMomentAfterEachTurn = (m : Contents) (inputs : ByLink Supply) (writers : ByLink Bool) (n : ℕ) (s t : RunMoment)
    → IsRun m inputs writers n s → IsRun m inputs writers n t → s ≡ t

abbrev pub OneMomentIsLast : Type 0
OneMomentIsLast = (m : Contents) (inputs : ByLink Supply) (writers : ByLink Bool) (n k : ℕ) (s t : RunMoment)
    → IsRun m inputs writers n s → IsOver m writers s → IsRun m inputs writers k t → IsOver m writers t → s ≡ t

-- ---- bytes that are not asked for

-- these bytes more to give
abbrev pub more_of : Supply → List ℕ → Supply
more_of None bytes = None
more_of (Some before) bytes = Some (before ++ bytes)

-- the same on this link, if it has not ended
abbrev pub more_on : Link → List ℕ → ByLink Supply → ByLink Supply
more_on link bytes supplies = with_link link (more_of (of_link supplies link) bytes) supplies

abbrev pub with_more : Link → List ℕ → RunMoment → RunMoment
with_more link bytes s = record s { left = more_on link bytes s.left }

-- More bytes on a link that has not ended change nothing but what is left there.
abbrev pub UnaskedBytesChangeNothing : Type 0
UnaskedBytesChangeNothing = (m : Contents) (inputs : ByLink Supply) (writers : ByLink Bool) (n : ℕ) (s : RunMoment)
    (link : Link) (rest bytes : List ℕ) → IsRun m inputs writers n s → of_link s.left link ≡ Some rest
    → IsRun m (more_on link bytes inputs) writers n (with_more link bytes s)
