-- The ways in which a turn ends, each with the tests that were passed, and the one that failed if it is at fault.
use Rattle.std.specs.Prelude.{◌≡◌, ℕ, ◌+◌, ◌&&◌, Bool, true, false, nat_lt, ℤ, length, Some, None, is_some, Err}
use Rattle.std.specs.Prelude.{slice_get, ◌==◌}
use Rattle.prefix_decoder.specs.declared.function.Fun.{Fun}
use Rattle.prefix_decoder.specs.Functions.{fun_of, function_code, nibble}
use Rattle.prefix_decoder.specs.Operand.{with_nibble, after_prefix}
use Rattle.module_format.specs.Contents.{Contents, Par, link_length}
use Rattle.machine_state.specs.declared.process.Task.{Task}
use Rattle.machine_state.specs.declared.process.Mode.TheVariants.{Plain, Enabling, Disabling}
use Rattle.machine_state.specs.declared.process.Exchange.{Exchange}
use Rattle.machine_state.specs.declared.process.Channel.{Channel}
use Rattle.machine_state.specs.declared.process.Condition.TheVariants.{Sending, Receiving, OnLink, Alternating}
use Rattle.machine_state.specs.declared.process.Condition.TheVariants.{Stopped}
use Rattle.machine_state.specs.declared.event.Event.{Event}
use Rattle.machine_state.specs.declared.event.Event.TheVariants.{Step, Arrive, Acknowledge}
use Rattle.machine_state.specs.declared.link.Link.{Link}
use Rattle.machine_state.specs.declared.link.InputLink.{InputLink}
use Rattle.machine_state.specs.declared.link.OutputLink.{OutputLink}
use Rattle.machine_state.specs.declared.fault.Fault.{Fault}
use Rattle.machine_state.specs.declared.fault.FaultKind.{FaultKind}
use Rattle.machine_state.specs.declared.fault.FaultKind.TheVariants.{OutsideCode, EndNotHeld, UnequalLengths}
use Rattle.machine_state.specs.declared.fault.FaultKind.TheVariants.{JoinOrder, NotOwn, AlternationOrder}
use Rattle.machine_state.specs.Memory.{place_of, with_byte}
use Rattle.std.specs.List.{list_all}
use Rattle.machine_state.specs.Holding.{may_write}
use Rattle.machine_state.specs.World.{World, Join, holding_at}
use Rattle.machine_state.specs.Site.{Local, Outcome, goes, jumps, lands, stops, fails, receives, sends, starts, joins}
use Rattle.machine_state.specs.Site.{begins, enables_channel, enables_skip, waits, disables_channel, disables_skip}
use Rattle.machine_state.specs.Site.{ends_alternation}
use Rattle.machine_state.specs.LocalStep.{local_step}
use Rattle.machine_state.specs.Turn.{Here, at_here, waiting}
use Rattle.machine_state.specs.Exchanges.{met, waits_at, condition_of, input_link, output_link, link_of, bytes_at}
use Rattle.machine_state.specs.Alternations as alternation
use Rattle.machine_state.specs.Alternations.{Source, in_mode, ready_or, chosen, is_by, has_enabled}
use Rattle.machine_state.specs.JoinLookups.{Found, found_at, opened_by, opener_of}
use Rattle.machine_state.specs.StartPlans.{Plan, word_passes, scheduling_places, first_fault, first_plan, later_plan}
use Rattle.machine_state.specs.StartPlans.{first_faults, later_faults}
use Rattle.machine_state.specs.Joins.{started, opened, member_joined, ended, given_back}
use Rattle.machine_state.specs.Moves.{counted, finished_where, put, leave, enqueue, wake, dispatch, link_index}
use Rattle.machine_state.specs.Moves.{with_input, with_output, fill, rouse, channel_at}
use Rattle.machine_state.specs.Happens.{Effect, Turn, answered, ran, idle, emitted, ignored, taken, kept, busy}
use Rattle.machine_state.specs.Happens.{acknowledged, failed, continued, between, site_of, turn}

-- ---- what an instruction makes of the world, before its byte is counted

-- the process as it was, but that it goes on in another mode or waits
abbrev pub stopped_here : Here → Local → World → World
stopped_here h l w =
    put h.process (record h.from { registers = between h.next l.registers; condition = Stopped }) l.memory w

abbrev pub alternating_here : Here → Local → World → World
alternating_here h l w =
    put h.process
    (record h.from {
      registers = between h.next l.registers;
      mode = Disabling None;
      condition = Alternating;
    }) l.memory w

-- with a byte at the start of its buffer
abbrev pub with_first : Exchange → ℕ → Local → Local
with_first e byte l = record l { memory = with_byte l.memory (place_of e.address) (Some byte) }

-- the plan of a first start
abbrev pub plan_of : Here → World → Found → Plan
plan_of h w found =
    first_plan h.contents h.process h.from.registers.workspace (holding_at w.roles h.process) w.memory found

-- a channel or a link that can be enabled
pub data IsSource (w : World) (address : ℕ) : Source → Type 0 where
  on_channel : (c : Channel) → input_link address ≡ None → channel_at w address ≡ Some c
      → IsSource w address (alternation.of_channel address c)
  on_link : (k : ℕ) (link : InputLink) → input_link address ≡ Some k → slice_get w.links.inputs k ≡ Some link
      → IsSource w address (alternation.of_link k link)

-- What an outcome makes of the world before the byte is counted, with the tests that were passed.
pub data Moved (h : Here) (w : World) : Outcome → World → Type 0 where
  it_goes : (l : Local) → Moved h w (goes l) (continued h h.next l w)
  it_jumps : (to : ℕ) (l : Local) → Moved h w (jumps to l) (continued h to l w)
  it_is_sliced : (to : ℕ) (l : Local)
      → Moved h w (jumps to l) (dispatch h.pick (enqueue h.process (leave (continued h to l w))))
  it_lands : (to : ℕ) (l : Local) → Moved h w (lands to l) (continued h to l w)
  it_stops : (l : Local) → Moved h w (stops l)
      (dispatch h.pick (leave (finished_where (h.next == h.contents.finish) (stopped_here h l w))))
  -- it waits for a sender, meets one, or receives from a link on which no byte is kept, the last one, or another one
  receives_first : (e : Exchange) (l : Local) (c : Channel) → input_link e.channel ≡ None
      → channel_at w e.channel ≡ Some c → c.waiting ≡ None → Moved h w (receives e l)
      (dispatch h.pick (leave (waits_at h (Receiving e) e.channel c l w)))
  receives_from : (e : Exchange) (l : Local) (c : Channel) (other : ℕ) (sent : Exchange) → input_link e.channel ≡ None
      → channel_at w e.channel ≡ Some c → c.waiting ≡ Some other → condition_of w other ≡ Sending sent
      → (sent.length == e.length) ≡ true → Moved h w (receives e l) (met h other sent e c l w)
  receives_none : (e : Exchange) (l : Local) (k : ℕ) (link : InputLink) → input_link e.channel ≡ Some k
      → slice_get w.links.inputs k ≡ Some link → link.kept ≡ None → Moved h w (receives e l)
      (dispatch h.pick (leave (with_input k (record link { waiting = Some h.process })
      (waiting h (OnLink e 0) l w))))
  receives_last : (e : Exchange) (l : Local) (k : ℕ) (link : InputLink) (byte : ℕ) → input_link e.channel ≡ Some k
      → slice_get w.links.inputs k ≡ Some link → link.kept ≡ Some byte → (e.length == 1) ≡ true
      → Moved h w (receives e l)
      (with_input k (record link { kept = None }) (continued h h.next (with_first e byte l) w))
  receives_one : (e : Exchange) (l : Local) (k : ℕ) (link : InputLink) (byte : ℕ) → input_link e.channel ≡ Some k
      → slice_get w.links.inputs k ≡ Some link → link.kept ≡ Some byte → (e.length == 1) ≡ false
      → Moved h w (receives e l)
      (dispatch h.pick (leave (with_input k (record link { kept = None; waiting = Some h.process })
      (waiting h (OnLink e 1) (with_first e byte l) w))))
  -- it waits for a receiver, or meets one
  sends_first : (e : Exchange) (l : Local) (c : Channel) → output_link e.channel ≡ None
      → channel_at w e.channel ≡ Some c → c.waiting ≡ None → Moved h w (sends e l)
      (dispatch h.pick (leave (rouse c.enabled (waits_at h (Sending e) e.channel c l w))))
  sends_to : (e : Exchange) (l : Local) (c : Channel) (other : ℕ) (wanted : Exchange) → output_link e.channel ≡ None
      → channel_at w e.channel ≡ Some c → c.waiting ≡ Some other → condition_of w other ≡ Receiving wanted
      → (wanted.length == e.length) ≡ true → Moved h w (sends e l) (met h other e wanted c l w)
  -- the first branch of a PAR, or a later one
  starts_first : (target workspace : ℕ) (l : Local) (found : Found) → found_at h.contents target ≡ Some found
      → opened_by w h.process ≡ None
      → first_fault (first_faults h.contents w.memory (holding_at w.roles h.process) (plan_of h w found) found
      workspace) ≡ None → Moved h w (starts target workspace l)
      (started h (plan_of h w found) found workspace (opened h (plan_of h w found) l w).0
      (opened h (plan_of h w found) l w).1)
  starts_later : (target workspace : ℕ) (l : Local) (found : Found) (j : Join)
      → found_at h.contents target ≡ Some found → opened_by w h.process ≡ Some j → (found.row == j.row) ≡ true
      → first_fault (later_faults (length w.memory) (later_plan h.contents j found.par) found workspace) ≡ None
      → Moved h w (starts target workspace l) (started h (later_plan h.contents j found.par) found workspace l w)
  -- the end of the process that has started the branches, or of a branch
  joins_own : (block : ℕ) (l : Local) (j : Join) (par : Par) → opened_by w h.process ≡ Some j
      → slice_get h.contents.pars j.row ≡ Some par
      → ((j.block == block) && (j.started == length par.branches)) ≡ true
      → Moved h w (joins block l) (member_joined h h.process j par (ended h l w))
  joins_opener : (block : ℕ) (l : Local) (opener : ℕ) (j : Join) (par : Par) → opened_by w h.process ≡ None
      → opener_of w h.process ≡ Some opener → opened_by w opener ≡ Some j
      → slice_get h.contents.pars j.row ≡ Some par → (j.block == block) ≡ true
      → Moved h w (joins block l) (member_joined h opener j par (given_back h (ended h l w)))
  it_begins : (l : Local) → Moved h w (begins l) (in_mode h (Enabling false) l w)
  it_enables : (guard : Bool) (address : ℕ) (l : Local) (s : Source) → guard ≡ true → IsSource w address s
      → is_some s.enabled ≡ false → Moved h w (enables_channel guard address l)
      (s.with_enabled (Some h.process) (in_mode h (ready_or h.from.mode s.is_ready) l w))
  it_enables_nothing : (guard : Bool) (address : ℕ) (l : Local) → guard ≡ false
      → Moved h w (enables_channel guard address l) (continued h h.next l w)
  it_enables_a_skip : (guard : Bool) (l : Local)
      → Moved h w (enables_skip guard l) (in_mode h (ready_or h.from.mode guard) l w)
  it_is_ready : (l : Local) → h.from.mode ≡ Enabling true → Moved h w (waits l) (in_mode h (Disabling None) l w)
  it_waits : (l : Local) → (h.from.mode ≡ Enabling true → ⊥)
      → Moved h w (waits l) (dispatch h.pick (leave (alternating_here h l w)))
  it_disables : (guard : Bool) (address : ℕ) (distance : ℤ) (l : Local) (s : Source) → guard ≡ true
      → IsSource w address s → is_by s.enabled h.process ≡ true
      → Moved h w (disables_channel guard address distance l)
      (s.with_enabled None (chosen h s.is_ready distance l w))
  it_disables_nothing : (guard : Bool) (address : ℕ) (distance : ℤ) (l : Local) → guard ≡ false
      → Moved h w (disables_channel guard address distance l) (chosen h false distance l w)
  it_disables_a_skip : (guard : Bool) (distance : ℤ) (l : Local)
      → Moved h w (disables_skip guard distance l) (chosen h guard distance l w)
  it_ends_alternation : (to : ℕ) (l : Local) → has_enabled w h.process ≡ false
      → Moved h w (ends_alternation to l)
      (put h.process (record h.from { registers = between to l.registers; mode = Plain }) l.memory w)

-- ---- why an instruction is at fault

-- the outcomes after which the code has to go on
pub data NeedsNext : Outcome → Type 0 where
  after_receiving : (e : Exchange) (l : Local) → NeedsNext (receives e l)
  after_sending : (e : Exchange) (l : Local) → NeedsNext (sends e l)
  after_starting : (target workspace : ℕ) (l : Local) → NeedsNext (starts target workspace l)
  after_enabling : (guard : Bool) (address : ℕ) (l : Local) → NeedsNext (enables_channel guard address l)
  after_disabling : (guard : Bool) (address : ℕ) (distance : ℤ) (l : Local)
      → NeedsNext (disables_channel guard address distance l)

-- no input link and no channel is at an address
pub data HasNoSource (w : World) (address : ℕ) : Type 0 where
  no_channel : input_link address ≡ None → channel_at w address ≡ None → HasNoSource w address
  no_link : (k : ℕ) → input_link address ≡ Some k → slice_get w.links.inputs k ≡ None → HasNoSource w address

-- Which test of a turn failed, with those that were passed before it.
pub data Refused (h : Here) (w : World) : Outcome → FaultKind → Type 0 where
  by_itself : (kind : FaultKind) → Refused h w (fails kind) kind
  no_code_follows : {o : Outcome} → NeedsNext o → nat_lt h.next (length h.contents.code) ≡ false
      → Refused h w o OutsideCode
  -- a message: no channel or link, a process that waits there but does not send or receive, or another length
  receives_nowhere : (e : Exchange) (l : Local) → HasNoSource w e.channel → Refused h w (receives e l) EndNotHeld
  receives_from_no_sender : (e : Exchange) (l : Local) (c : Channel) (other : ℕ) → input_link e.channel ≡ None
      → channel_at w e.channel ≡ Some c → c.waiting ≡ Some other
      → ((sent : Exchange) → condition_of w other ≡ Sending sent → ⊥) → Refused h w (receives e l) EndNotHeld
  receives_other_length : (e : Exchange) (l : Local) (c : Channel) (other : ℕ) (sent : Exchange)
      → input_link e.channel ≡ None → channel_at w e.channel ≡ Some c → c.waiting ≡ Some other
      → condition_of w other ≡ Sending sent → (sent.length == e.length) ≡ false
      → Refused h w (receives e l) UnequalLengths
  receives_other_than_link : (e : Exchange) (l : Local) (k : ℕ) (link : InputLink) → input_link e.channel ≡ Some k
      → slice_get w.links.inputs k ≡ Some link → (link_length h.contents (4 + k) == e.length) ≡ false
      → Refused h w (receives e l) UnequalLengths
  sends_nowhere : (e : Exchange) (l : Local) → output_link e.channel ≡ None → channel_at w e.channel ≡ None
      → Refused h w (sends e l) EndNotHeld
  sends_to_no_receiver : (e : Exchange) (l : Local) (c : Channel) (other : ℕ) → output_link e.channel ≡ None
      → channel_at w e.channel ≡ Some c → c.waiting ≡ Some other
      → ((wanted : Exchange) → condition_of w other ≡ Receiving wanted → ⊥) → Refused h w (sends e l) EndNotHeld
  sends_other_length : (e : Exchange) (l : Local) (c : Channel) (other : ℕ) (wanted : Exchange)
      → output_link e.channel ≡ None → channel_at w e.channel ≡ Some c → c.waiting ≡ Some other
      → condition_of w other ≡ Receiving wanted → (wanted.length == e.length) ≡ false
      → Refused h w (sends e l) UnequalLengths
  sends_other_than_link : (e : Exchange) (l : Local) (k : ℕ) → output_link e.channel ≡ Some k
      → (link_length h.contents k == e.length) ≡ false → Refused h w (sends e l) UnequalLengths
  -- an alternation: nothing there, enabled already, not enabled by this process, something still enabled at its end
  enables_nowhere : (guard : Bool) (address : ℕ) (l : Local) → guard ≡ true → HasNoSource w address
      → Refused h w (enables_channel guard address l) EndNotHeld
  is_enabled_already : (guard : Bool) (address : ℕ) (l : Local) (s : Source) → guard ≡ true → IsSource w address s
      → is_some s.enabled ≡ true → Refused h w (enables_channel guard address l) AlternationOrder
  disables_nowhere : (guard : Bool) (address : ℕ) (distance : ℤ) (l : Local) → guard ≡ true → HasNoSource w address
      → Refused h w (disables_channel guard address distance l) EndNotHeld
  is_not_its_own : (guard : Bool) (address : ℕ) (distance : ℤ) (l : Local) (s : Source) → guard ≡ true
      → IsSource w address s → is_by s.enabled h.process ≡ false
      → Refused h w (disables_channel guard address distance l) AlternationOrder
  is_enabled_still : (to : ℕ) (l : Local) → has_enabled w h.process ≡ true
      → Refused h w (ends_alternation to l) AlternationOrder
  ends_outside : (to : ℕ) (l : Local) → has_enabled w h.process ≡ false → nat_lt to (length h.contents.code) ≡ false
      → Refused h w (ends_alternation to l) OutsideCode
  -- a start: no branch begins there, a branch of another row than that of the open PAR, or a failed test
  starts_no_branch_not_own : (target workspace : ℕ) (l : Local) → found_at h.contents target ≡ None
      → list_all (word_passes (may_write (holding_at w.roles h.process))) (scheduling_places workspace) ≡ false
      → Refused h w (starts target workspace l) NotOwn
  starts_no_branch : (target workspace : ℕ) (l : Local) → found_at h.contents target ≡ None
      → list_all (word_passes (may_write (holding_at w.roles h.process))) (scheduling_places workspace) ≡ true
      → Refused h w (starts target workspace l) JoinOrder
  starts_other_row_not_own : (target workspace : ℕ) (l : Local) (found : Found) (j : Join)
      → found_at h.contents target ≡ Some found → opened_by w h.process ≡ Some j → (found.row == j.row) ≡ false
      → list_all (word_passes (may_write j.rest)) (scheduling_places workspace) ≡ false
      → Refused h w (starts target workspace l) NotOwn
  starts_other_row : (target workspace : ℕ) (l : Local) (found : Found) (j : Join)
      → found_at h.contents target ≡ Some found → opened_by w h.process ≡ Some j → (found.row == j.row) ≡ false
      → list_all (word_passes (may_write j.rest)) (scheduling_places workspace) ≡ true
      → Refused h w (starts target workspace l) JoinOrder
  fails_first_tests : (target workspace : ℕ) (l : Local) (found : Found) (kind : FaultKind)
      → found_at h.contents target ≡ Some found → opened_by w h.process ≡ None
      → first_fault (first_faults h.contents w.memory (holding_at w.roles h.process) (plan_of h w found) found
      workspace) ≡ Some kind → Refused h w (starts target workspace l) kind
  fails_later_tests : (target workspace : ℕ) (l : Local) (found : Found) (j : Join) (kind : FaultKind)
      → found_at h.contents target ≡ Some found → opened_by w h.process ≡ Some j → (found.row == j.row) ≡ true
      → first_fault (later_faults (length w.memory) (later_plan h.contents j found.par) found workspace) ≡ Some kind
      → Refused h w (starts target workspace l) kind
  -- the end of the process that has started the branches: no row, or another block or branches not started
  joins_own_without_row : (block : ℕ) (l : Local) (j : Join) → opened_by w h.process ≡ Some j
      → slice_get h.contents.pars j.row ≡ None → Refused h w (joins block l) JoinOrder
  joins_own_too_early : (block : ℕ) (l : Local) (j : Join) (par : Par) → opened_by w h.process ≡ Some j
      → slice_get h.contents.pars j.row ≡ Some par
      → ((j.block == block) && (j.started == length par.branches)) ≡ false → Refused h w (joins block l) JoinOrder
  -- the end of a branch: no opener, an opener without a join, no row, or another block
  joins_nobody : (block : ℕ) (l : Local) → opened_by w h.process ≡ None → opener_of w h.process ≡ None
      → Refused h w (joins block l) JoinOrder
  joins_no_join : (block : ℕ) (l : Local) (opener : ℕ) → opened_by w h.process ≡ None
      → opener_of w h.process ≡ Some opener → opened_by w opener ≡ None → Refused h w (joins block l) JoinOrder
  joins_without_row : (block : ℕ) (l : Local) (opener : ℕ) (j : Join) → opened_by w h.process ≡ None
      → opener_of w h.process ≡ Some opener → opened_by w opener ≡ Some j
      → slice_get h.contents.pars j.row ≡ None → Refused h w (joins block l) JoinOrder
  joins_other_block : (block : ℕ) (l : Local) (opener : ℕ) (j : Join) (par : Par) → opened_by w h.process ≡ None
      → opener_of w h.process ≡ Some opener → opened_by w opener ≡ Some j
      → slice_get h.contents.pars j.row ≡ Some par → (j.block == block) ≡ false
      → Refused h w (joins block l) JoinOrder

-- ---- how a turn ends

-- the turn of an instruction: it is at fault, has run, or sends a message out
pub data TurnsInto (h : Here) (w : World) : Outcome → Turn → Type 0 where
  at_fault : {o : Outcome} {kind : FaultKind} → Refused h w o kind → TurnsInto h w o (failed h kind w)
  has_run : {o : Outcome} {after : World} → Moved h w o after → TurnsInto h w o (answered ran (counted after))
  -- a message goes out on a link
  has_emitted : (e : Exchange) (l : Local) (k : ℕ) → output_link e.channel ≡ Some k
      → (link_length h.contents k == e.length) ≡ true → TurnsInto h w (sends e l)
      (answered (emitted (link_of k) (bytes_at l.memory (place_of e.address) e.length)) (counted
      (dispatch h.pick (leave (with_output k (record { waiting = Some h.process }) (waiting h (OnLink e 0) l w))))))

-- ---- every event

-- the local part of a task
abbrev pub local_here : Task → World → Local
local_here task w = record { registers = task.registers; memory = w.memory }

-- the results of events that leave the world as it was
pub data Rests : Event → Effect → Type 0 where
  is_idle : {slice : Bool} {pick : ℕ} → Rests (Step slice pick) idle
  is_busy : {link : Link} {byte : ℕ} → Rests (Arrive link byte) busy
  arrives_nowhere : {link : Link} {byte : ℕ} → Rests (Arrive link byte) ignored
  is_ignored : {link : Link} → Rests (Acknowledge link) ignored

-- a byte of a process is not in the code, or is a prefix after which the code ends
pub data IsOutsideCode (m : Contents) (task : Task) : Type 0 where
  no_byte : slice_get m.code task.registers.at ≡ None → IsOutsideCode m task
  no_byte_follows : (byte : ℕ) → slice_get m.code task.registers.at ≡ Some byte → fun_of (function_code byte) ≡ None
      → nat_lt (task.registers.at + 1) (length m.code) ≡ false → IsOutsideCode m task

-- What became of an event.
pub data Happened (m : Contents) (w : World) : Event → Turn → Type 0 where
  was_at_fault : {e : Event} (f : Fault) → w.fault ≡ Some f
      → Happened m w e (record { world = w; answer = Err f })
  it_rests : {e : Event} {effect : Effect} → Rests e effect → Happened m w e (answered effect w)
  -- a byte of the running process: it is at fault before any instruction, is a prefix, or completes an instruction
  is_outside : {slice : Bool} {pick : ℕ} (p : ℕ) (task : Task) → IsOutsideCode m task → w.queue.running ≡ Some p
      → slice_get w.tasks p ≡ Some task
      → Happened m w (Step slice pick) (failed (at_here m p task pick) OutsideCode w)
  is_prefix : {slice : Bool} {pick : ℕ} (p : ℕ) (task : Task) (byte : ℕ) (operand : ℤ) → w.queue.running ≡ Some p
      → slice_get w.tasks p ≡ Some task → slice_get m.code task.registers.at ≡ Some byte
      → fun_of (function_code byte) ≡ None
      → after_prefix (function_code byte) (with_nibble task.registers.operand (nibble byte)) ≡ operand
      → nat_lt (task.registers.at + 1) (length m.code) ≡ true
      → Happened m w (Step slice pick) (answered ran (counted (put p
      (record task { registers = record task.registers { at = task.registers.at + 1; operand = operand } })
      w.memory w)))
  is_step : {slice : Bool} {pick : ℕ} {t : Turn} (p : ℕ) (task : Task) (byte : ℕ) (f : Fun)
      → w.queue.running ≡ Some p → slice_get w.tasks p ≡ Some task
      → slice_get m.code task.registers.at ≡ Some byte → fun_of (function_code byte) ≡ Some f
      → TurnsInto (at_here m p task pick) w
      (local_step (site_of (at_here m p task pick) w) f (with_nibble task.registers.operand (nibble byte))
      (local_here task w)) t
      → Happened m w (Step slice pick) t
  is_taken : {link : Link} {byte : ℕ} (input : InputLink) (p : ℕ)
      → slice_get w.links.inputs (link_index link) ≡ Some input → input.waiting ≡ Some p
      → Happened m w (Arrive link byte)
      (answered taken (dispatch 0 (fill p (link_index link) byte input w)))
  is_kept : {link : Link} {byte : ℕ} (input : InputLink) → slice_get w.links.inputs (link_index link) ≡ Some input
      → input.waiting ≡ None → input.kept ≡ None → Happened m w (Arrive link byte)
      (answered kept (dispatch 0 (rouse input.enabled
      (with_input (link_index link) (record input { kept = Some byte }) w))))
  is_acknowledged : {link : Link} (output : OutputLink) (p : ℕ)
      → slice_get w.links.outputs (link_index link) ≡ Some output → output.waiting ≡ Some p
      → Happened m w (Acknowledge link)
      (answered acknowledged (dispatch 0 (wake p (with_output (link_index link) (record { waiting = None }) w))))

-- ---- every event moves or fails

abbrev pub StepsMoveOrFail : Type 0
StepsMoveOrFail = (m : Contents) (w : World) (e : Event) → Happened m w e (turn m w e)
