-- What each process waits for, and when no byte and no acknowledgement that could still come makes one run.
use Rattle.std.specs.Prelude.{◌≡◌, ℕ, zero, suc, ◌+◌, ◌&&◌, ◌||◌, Bool, true, false, if◌then◌else◌, is_none, List, []}
use Rattle.std.specs.Prelude.{◌∷◌, length, Option, Some, None, slice_get}
use Rattle.std.specs.List.{list_all}
use Rattle.module_format.specs.Contents.{Contents}
use Rattle.machine_state.specs.declared.event.Event.{Event}
use Rattle.machine_state.specs.declared.event.Event.TheVariants.{Step, Arrive, Acknowledge}
use Rattle.machine_state.specs.declared.link.InputLink.{InputLink}
use Rattle.machine_state.specs.declared.link.OutputLink.{OutputLink}
use Rattle.machine_state.specs.declared.process.Channel.{Channel}
use Rattle.machine_state.specs.declared.process.Condition.{Condition}
use Rattle.machine_state.specs.declared.process.Condition.TheVariants as condition
use Rattle.machine_state.specs.declared.process.Exchange.{Exchange}
use Rattle.machine_state.specs.Alternations.{is_by}
use Rattle.machine_state.specs.Exchanges.{input_link, output_link}
use Rattle.machine_state.specs.Happens.{run_from}
use Rattle.machine_state.specs.JoinLookups.{opened_by}
use Rattle.machine_state.specs.World.{World, Join, Queue}
use Rattle.link_runs.specs.Wanting.{is_running}

-- ---- what a process waits for

pub data Wait : Type 0 where
  -- for the processor alone: it runs, or is ready
  processor : Wait
  -- for a process that receives this message, or sends it, on an internal channel
  receiver : Exchange → Wait
  sender : Exchange → Wait
  -- on the input link of this number for the rest of this message, of which so many bytes have come
  bytes : ℕ → Exchange → ℕ → Wait
  -- on the output link of this number for the acknowledgement of this message
  acknowledgement : ℕ → Exchange → Wait
  -- for one of the guards that it has enabled: the numbers of input links, and those of the data words of channels
  guards : List ℕ → List ℕ → Wait
  -- for those that have not ended of the branches of its PAR
  branches : Join → Wait
  -- for nothing: it has stopped or ended, and never goes on
  for_good : Wait

-- the places of the items that pass the test, counted from this number on
abbrev pub places_from : {A : Type 0} → ℕ → (A → Bool) → List A → List ℕ
places_from k passes [] = []
places_from k passes (x ∷ xs) = if passes x then k ∷ places_from (k + 1) passes xs else places_from (k + 1) passes xs

abbrev pub enabled_inputs : World → ℕ → List ℕ
enabled_inputs w p = places_from 0 (λ (input : InputLink). is_by input.enabled p) w.links.inputs

abbrev pub is_enabled_by : ℕ → Option Channel → Bool
is_enabled_by p None = false
is_enabled_by p (Some channel) = is_by channel.enabled p

abbrev pub enabled_channels : World → ℕ → List ℕ
enabled_channels w p = places_from 0 (is_enabled_by p) w.channels

-- the link on which this message is exchanged
abbrev pub on_link : Exchange → ℕ → Wait
on_link exchange done = elim (input_link exchange.channel) [
  | Some k ↦ bytes k exchange done
  | None ↦ elim (output_link exchange.channel) [ Some k ↦ acknowledgement k exchange | None ↦ for_good ]
]

-- One that has ended waits for its branches while its join is open.
abbrev pub wait_by : World → ℕ → Condition → Wait
wait_by w p condition.Ready = processor
wait_by w p (condition.Sending exchange) = receiver exchange
wait_by w p (condition.Receiving exchange) = sender exchange
wait_by w p (condition.OnLink exchange done) = on_link exchange done
wait_by w p condition.Alternating = guards (enabled_inputs w p) (enabled_channels w p)
wait_by w p condition.Stopped = for_good
wait_by w p condition.Ended = elim (opened_by w p) [ None ↦ for_good | Some join ↦ branches join ]

-- what the process of this number waits for, if there is one
abbrev pub awaits : World → ℕ → Option Wait
awaits w p = elim (slice_get w.tasks p) [ None ↦ None | Some task ↦ Some (wait_by w p task.condition) ]

-- ---- deadlocks

-- no process runs, and none is ready
abbrev pub is_empty : Queue → Bool
is_empty queue = is_none queue.running && elim queue.ready [ [] ↦ true | p ∷ ps ↦ false ]

-- no process waits on the link, and none has enabled it
abbrev pub is_quiet_input : InputLink → Bool
is_quiet_input input = is_none input.waiting && is_none input.enabled

abbrev pub is_quiet_output : OutputLink → Bool
is_quiet_output output = is_none output.waiting

-- whether this is a wait for another process
abbrev pub is_for_others : Option Wait → Bool
is_for_others (Some (receiver exchange)) = true
is_for_others (Some (sender exchange)) = true
is_for_others (Some (guards inputs channels)) = true
is_for_others (Some (branches join)) = true
is_for_others _ = false

-- whether some number below this one passes the test
abbrev pub any_below : (ℕ → Bool) → ℕ → Bool
any_below passes zero = false
any_below passes (suc n) = any_below passes n || passes n

-- No process runs or is ready, none waits on a link or has enabled one, and some process waits for another one. One
-- that has stopped for good waits for nothing.
abbrev pub is_deadlock : World → Bool
is_deadlock w =
    is_empty w.queue && list_all is_quiet_input w.links.inputs && list_all is_quiet_output w.links.outputs
    && any_below (λ p. is_for_others (awaits w p)) (length w.tasks)

-- ---- the law of deadlocks

-- what comes from outside: bytes, and acknowledgements
abbrev pub is_from_outside : Event → Bool
is_from_outside (Step slice pick) = false
is_from_outside (Arrive link byte) = true
is_from_outside (Acknowledge link) = true

-- In a deadlock nothing that comes from outside makes a process run.
abbrev pub DeadlocksStay : Type 0
DeadlocksStay = (m : Contents) (w : World) (es : List Event) → is_deadlock w ≡ true
    → list_all is_from_outside es ≡ true
    → is_running (run_from m w es) ≡ false
