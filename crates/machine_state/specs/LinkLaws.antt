-- Who waits on a link.
use Rattle.std.specs.Prelude.{◌≡◌, ℕ, true, List, Some, slice_get, length}
use Rattle.module_format.specs.Contents.{Contents}
use Rattle.module_format.specs.declared.rows.Direction.TheVariants.{In, Out}
use Rattle.module_format.specs.Keeping.{Keeps}
use Rattle.machine_state.specs.declared.event.Event.{Event}
use Rattle.machine_state.specs.declared.link.InputLink.{InputLink}
use Rattle.machine_state.specs.declared.link.OutputLink.{OutputLink}
use Rattle.machine_state.specs.declared.process.Task.{Task}
use Rattle.machine_state.specs.declared.process.Exchange.{Exchange}
use Rattle.machine_state.specs.declared.process.Condition.TheVariants.{OnLink}
use Rattle.machine_state.specs.Holding.{has_end}
use Rattle.machine_state.specs.World.{Role, Links, holding_at, input_word, output_word}
use Rattle.machine_state.specs.Happens.{world_after}

-- the process is recorded at the link of this message, and holds that end of it
pub data IsAtLink (roles : List Role) (links : Links) (p : ℕ) (e : Exchange) : Type 0 where
  at_input : (k : ℕ) (link : InputLink) → slice_get links.inputs k ≡ Some link → link.waiting ≡ Some p
      → e.channel ≡ input_word k
      → has_end (holding_at roles p) (record { address = e.channel; direction = In }) ≡ true
      → IsAtLink roles links p e
  at_output : (k : ℕ) (link : OutputLink) → slice_get links.outputs k ≡ Some link → link.waiting ≡ Some p
      → e.channel ≡ output_word k
      → has_end (holding_at roles p) (record { address = e.channel; direction = Out }) ≡ true
      → IsAtLink roles links p e

-- a process that waits on a link is recorded there
abbrev pub AreAtLinks : List Task → List Role → Links → Type 0
AreAtLinks tasks roles links =
    (p : ℕ) (task : Task) (e : Exchange) (done : ℕ) → slice_get tasks p ≡ Some task → task.condition ≡ OnLink e done
    → IsAtLink roles links p e

abbrev pub WhoWaitsOnLinksIsRecorded : Type 0
WhoWaitsOnLinksIsRecorded = (m : Contents) (es : List Event) → Keeps m
    → let w = world_after m es in AreAtLinks w.tasks w.roles w.links

-- four output links and four input links
pub record FourEachWay (links : Links) : Type 0 where
  pub outputs : length links.outputs ≡ 4
  pub inputs : length links.inputs ≡ 4

abbrev pub LinksStayFourEachWay : Type 0
LinksStayFourEachWay = (m : Contents) (es : List Event) → FourEachWay (world_after m es).links
