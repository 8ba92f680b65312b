-- The run of a module whose input links have bytes to give: no process gives way, the first one that is ready is next,
-- a message is acknowledged at once, and a byte is asked only while no process is running. It is our own choice.
use Rattle.std.specs.Prelude.{◌≡◌, ℕ, zero, suc, ◌+◌, ◌++◌, Bool, false, ◌&&◌, if◌then◌else◌, is_some, List, []}
use Rattle.std.specs.Prelude.{◌∷◌, Option, Some, None, Result, Ok, Err}
use Rattle.module_format.specs.Contents.{Contents}
use Rattle.machine_state.specs.declared.event.Event.{Event}
use Rattle.machine_state.specs.declared.event.Event.TheVariants.{Step, Arrive, Acknowledge}
use Rattle.machine_state.specs.declared.fault.Fault.{Fault}
use Rattle.machine_state.specs.declared.link.Link.{Link}
use Rattle.machine_state.specs.World.{World, loaded}
use Rattle.machine_state.specs.Happens.{Effect, emitted, turn, happens}
use Rattle.link_runs.specs.ByLink.{ByLink, of_link, with_link, for_all, first_link}
use Rattle.link_runs.specs.Wanting.{is_running, wants}

-- The Step of such a run: no process gives way, and the first that is ready is next.
abbrev pub plain_step : Event
plain_step = Step false 0

-- the bytes that an input link has to give, or none if it has ended
abbrev pub Supply : Type 0
Supply = Option (List ℕ)

-- The run at a moment: of each input link what is not asked for yet, and how many bytes were; of each output link with
-- a writer the bytes of its messages.
pub record RunMoment : Type 0 where
  pub world : World
  pub left : ByLink Supply
  pub read : ByLink ℕ
  pub written : ByLink (List ℕ)

-- the loaded module, with these bytes to give
abbrev pub beginning : Contents → ByLink Supply → RunMoment
beginning m inputs = record { world = loaded m; left = inputs; read = for_all 0; written = for_all [] }

-- A message that was emitted goes to the link's writer and is acknowledged. If there is none, it goes nowhere, and its
-- sender waits for good.
abbrev pub delivered : Contents → ByLink Bool → Link → List ℕ → RunMoment → RunMoment
delivered m writers link bytes s =
    if of_link writers link
    then record s {
      world = happens m s.world (Acknowledge link);
      written = with_link link (of_link s.written link ++ bytes) s.written;
    }
    else s

-- what a Step emits is delivered
abbrev pub followed_up : Contents → ByLink Bool → Result Effect Fault → RunMoment → RunMoment
followed_up m writers (Ok (emitted link bytes)) s = delivered m writers link bytes s
followed_up m writers (Ok _) s = s
followed_up m writers (Err f) s = s

-- a byte of the running process is executed
abbrev pub stepped : Contents → ByLink Bool → RunMoment → RunMoment
stepped m writers s =
    followed_up m writers (turn m s.world plain_step).answer (record s { world = happens m s.world plain_step })

-- whether a byte can be asked of the link: some process wants one, and the link has not ended
abbrev pub can_be_asked : RunMoment → Link → Bool
can_be_asked s link = wants link s.world && is_some (of_link s.left link)

-- the link that is asked next
abbrev pub asked : RunMoment → Option Link
asked s = first_link (can_be_asked s)

-- The next byte of this link arrives. If none is left, the link has ended.
abbrev pub supplied : Contents → Link → Supply → RunMoment → RunMoment
supplied m link None s = s
supplied m link (Some []) s = record s { left = with_link link None s.left }
supplied m link (Some (byte ∷ bytes)) s = record s {
  world = happens m s.world (Arrive link byte);
  left = with_link link (Some bytes) s.left;
  read = with_link link (of_link s.read link + 1) s.read;
}

-- the link that is asked gives a byte, or ends
abbrev pub answered_by : Contents → RunMoment → Option Link → Option RunMoment
answered_by m s None = None
answered_by m s (Some link) = Some (supplied m link (of_link s.left link) s)

-- The next moment: a process runs, or a link is asked. If neither can be, the run is over.
unfoldable pub next : Contents → ByLink Bool → RunMoment → Option RunMoment
next m writers s = if is_running s.world then Some (stepped m writers s) else answered_by m s (asked s)

abbrev pub next_of : Contents → ByLink Bool → Option RunMoment → Option RunMoment
next_of m writers None = None
next_of m writers (Some s) = next m writers s

-- the moment after a number of turns, if the run is not over before
abbrev pub moment_after : Contents → ByLink Supply → ByLink Bool → ℕ → Option RunMoment
moment_after m inputs writers zero = Some (beginning m inputs)
moment_after m inputs writers (suc n) = next_of m writers (moment_after m inputs writers n)

abbrev pub IsRun : Contents → ByLink Supply → ByLink Bool → ℕ → RunMoment → Type 0
IsRun m inputs writers n s = moment_after m inputs writers n ≡ Some s

-- nothing is left to do
abbrev pub IsOver : Contents → ByLink Bool → RunMoment → Type 0
IsOver m writers s = next m writers s ≡ None
