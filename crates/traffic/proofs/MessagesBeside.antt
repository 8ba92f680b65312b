-- What comes of a message, whatever the counters and the fault are.
use Rattle.std.proofs.Common.{◌≡◌, ℕ, ◌+◌, ◌==◌, Bool, if◌then◌else◌, Option, Some, None, refl, slice_get}
use Rattle.module_format.specs.Contents.{link_length}
use Rattle.machine_state.specs.declared.fault.Fault.{Fault}
use Rattle.machine_state.specs.declared.fault.FaultKind.TheVariants.{UnequalLengths, EndNotHeld}
use Rattle.machine_state.specs.declared.process.Channel.{Channel}
use Rattle.machine_state.specs.declared.process.Exchange.{Exchange}
use Rattle.machine_state.specs.declared.process.Condition.{Condition}
use Rattle.machine_state.specs.declared.process.Condition.TheVariants.{Sending, Receiving, OnLink}
use Rattle.machine_state.specs.declared.link.InputLink.{InputLink}
use Rattle.machine_state.specs.Memory.{Memory, place_of, with_byte}
use Rattle.machine_state.specs.LocalStep.{copied}
use Rattle.machine_state.specs.Site.{Local}
use Rattle.machine_state.specs.World.{World, Counters}
use Rattle.machine_state.specs.Moves.{counted, rouse, dispatch, leave, channel_at, with_channel}
use Rattle.machine_state.specs.Moves.{with_input, with_output}
use Rattle.machine_state.specs.Turn.{Turn, ran, emitted, answered, Here, failed, continued, followed, waiting, left}
use Rattle.machine_state.specs.Exchanges.{met, waits_at, condition_of, received_from, received_inside, sent_to}
use Rattle.machine_state.specs.Exchanges.{sent_inside, link_of, received_kept, received_on, received_outside}
use Rattle.machine_state.specs.Exchanges.{bytes_at, sent_outside, input_link, output_link, received, sent}
use Rattle.traffic.specs.Beside.{beside, counted_beside, ReceivesBeside, SendsBeside}
use Rattle.traffic.proofs.Beside.{wake-beside, rouse-beside}
use Rattle.traffic.proofs.TurnsBeside.{either_turn, either_world, maybe_turn, maybe_world}
use Rattle.traffic.proofs.TurnsBeside.{executed-beside, followed-beside, left-beside}

module _ (c : Counters) (f : Option Fault) where
  -- ---- internal channels

  met-beside : (h : Here) (other : ℕ) (source to : Exchange) (channel : Channel) (l : Local) (w : World)
      → met h other source to channel l (beside c f w) ≡ beside c f (met h other source to channel l w)
  met-beside h other source to channel l w =
      let memory : Memory = copied l.memory (place_of source.address) (place_of to.address) source.length l.memory in
      wake-beside c f other (with_channel source.channel (record channel { waiting = None })
      (continued h h.next (record l { memory = memory }) w))

  meeting : (h : Here) (other : ℕ) (source to : Exchange) (channel : Channel) (l : Local) (w : World) (b : Bool)
      → (if b then followed h (answered ran (counted (met h other source to channel l (beside c f w)))) (beside c f w)
      else failed h UnequalLengths (beside c f w))
      ≡ counted_beside c f (if b then followed h (answered ran (counted (met h other source to channel l w))) w
      else failed h UnequalLengths w)
  meeting h other source to channel l w b =
      let there : World = met h other source to channel l w in
      let turn : Turn = followed h (answered ran (counted there)) w in
      either_turn c f b turn (failed h UnequalLengths w)
      (followed-beside c f h (answered ran (counted there)) w
      (executed-beside c f ran there (met-beside h other source to channel l w)))
      refl

  -- by what the process at the other end waits for
  abbrev FromBeside : (Here → Exchange → Channel → Local → World → ℕ → Condition → Turn) → Type 0
  FromBeside meets = (h : Here) (e : Exchange) (channel : Channel) (l : Local) (w : World) (other : ℕ)
      (condition : Condition)
      → meets h e channel l (beside c f w) other condition ≡ counted_beside c f (meets h e channel l w other condition)

  received_from-beside : FromBeside received_from
  received_from-beside h e channel l w other (Sending source) =
      meeting h other source e channel l w (source.length == e.length)
  received_from-beside h e channel l w other _ = refl

  sent_to-beside : FromBeside sent_to
  sent_to-beside h e channel l w other (Receiving wanted) =
      meeting h other e wanted channel l w (wanted.length == e.length)
  sent_to-beside h e channel l w other _ = refl

  -- a process gives way, in the world that this one is beside the counters
  giving_way : (h : Here) (there : World) (w : World) {v : World} → v ≡ beside c f there
      → followed h (answered ran (left h v)) (beside c f w)
      ≡ counted_beside c f (followed h (answered ran (left h there)) w)
  giving_way h there w same =
      followed-beside c f h (answered ran (left h there)) w
      (executed-beside c f ran (dispatch h.pick (leave there)) (left-beside c f h there same))

  received_inside-beside : (h : Here) (e : Exchange) (channel : Channel) (l : Local) (w : World)
      → received_inside h e channel l (beside c f w) ≡ counted_beside c f (received_inside h e channel l w)
  received_inside-beside h e channel l w =
      let there : World = waits_at h (Receiving e) e.channel channel l w in
      maybe_turn c f channel.waiting (followed h (answered ran (left h there)) w)
      (λ other. received_from h e channel l w other (condition_of w other))
      (giving_way h there w refl)
      (λ other. received_from-beside h e channel l w other (condition_of w other))

  sent_inside-beside : (h : Here) (e : Exchange) (channel : Channel) (l : Local) (w : World)
      → sent_inside h e channel l (beside c f w) ≡ counted_beside c f (sent_inside h e channel l w)
  sent_inside-beside h e channel l w =
      let waits : World = waits_at h (Sending e) e.channel channel l w in
      let there : World = rouse channel.enabled waits in
      maybe_turn c f channel.waiting (followed h (answered ran (left h there)) w)
      (λ other. sent_to h e channel l w other (condition_of w other))
      (giving_way h there w (rouse-beside c f channel.enabled waits))
      (λ other. sent_to-beside h e channel l w other (condition_of w other))

  -- ---- links

  received_kept-beside : (h : Here) (k : ℕ) (e : Exchange) (link : InputLink) (byte : ℕ) (l : Local) (w : World)
      → answered ran (received_kept h k e link byte l (beside c f w))
      ≡ counted_beside c f (answered ran (received_kept h k e link byte l w))
  received_kept-beside h k e link byte l w =
      let filled : Local = record l { memory = with_byte l.memory (place_of e.address) (Some byte) } in
      let whole : World = with_input k (record link { kept = None }) (continued h h.next filled w) in
      let part : World =
      with_input k (record link { kept = None; waiting = Some h.process }) (waiting h (OnLink e 1) filled w) in
      either_world c f (e.length == 1) (counted whole) (left h part) refl
      (executed-beside c f ran (dispatch h.pick (leave part)) (left-beside c f h part refl))

  received_on-beside : (h : Here) (k : ℕ) (e : Exchange) (link : InputLink) (l : Local) (w : World)
      → answered ran (received_on h k e link l (beside c f w))
      ≡ counted_beside c f (answered ran (received_on h k e link l w))
  received_on-beside h k e link l w =
      let there : World = with_input k (record link { waiting = Some h.process }) (waiting h (OnLink e 0) l w) in
      maybe_world c f link.kept (left h there) (λ byte. received_kept h k e link byte l w)
      (executed-beside c f ran (dispatch h.pick (leave there)) (left-beside c f h there refl))
      (λ byte. received_kept-beside h k e link byte l w)

  received_outside-beside : (h : Here) (k : ℕ) (e : Exchange) (l : Local) (w : World)
      → received_outside h k e l (beside c f w) ≡ counted_beside c f (received_outside h k e l w)
  received_outside-beside h k e l w =
      maybe_turn c f (slice_get w.links.inputs k) (failed h EndNotHeld w)
      (λ link. if link_length h.contents (4 + k) == e.length
      then followed h (answered ran (received_on h k e link l w)) w else failed h UnequalLengths w)
      refl
      (λ link. either_turn c f (link_length h.contents (4 + k) == e.length)
      (followed h (answered ran (received_on h k e link l w)) w) (failed h UnequalLengths w)
      (followed-beside c f h (answered ran (received_on h k e link l w)) w
      (received_on-beside h k e link l w))
      refl)

  sent_outside-beside : (h : Here) (k : ℕ) (e : Exchange) (l : Local) (w : World)
      → sent_outside h k e l (beside c f w) ≡ counted_beside c f (sent_outside h k e l w)
  sent_outside-beside h k e l w =
      let there : World = with_output k (record { waiting = Some h.process }) (waiting h (OnLink e 0) l w) in
      let goes_out = emitted (link_of k) (bytes_at l.memory (place_of e.address) e.length) in
      either_turn c f (link_length h.contents k == e.length)
      (followed h (answered goes_out (left h there)) w) (failed h UnequalLengths w)
      (followed-beside c f h (answered goes_out (left h there)) w
      (executed-beside c f goes_out (dispatch h.pick (leave there)) (left-beside c f h there refl)))
      refl

  -- ---- in and out

  -- a channel's end is a link's, or there is a channel inside or none
  at_end : (h : Here) (link : Option ℕ) (channel : Option Channel) (w : World) (outside : ℕ → Turn)
      (inside : Channel → Turn) {outside' : ℕ → Turn} {inside' : Channel → Turn}
      → ((k : ℕ) → outside' k ≡ counted_beside c f (outside k))
      → ((channel : Channel) → inside' channel ≡ counted_beside c f (inside channel))
      → elim link as (λ x. Turn) [
        | Some k ↦ outside' k
        | None ↦ elim channel as (λ x. Turn)
            [ None ↦ failed h EndNotHeld (beside c f w) | Some channel ↦ inside' channel ]
      ] ≡ counted_beside c f (elim link as (λ x. Turn) [
        | Some k ↦ outside k
        | None ↦ elim channel as (λ x. Turn) [ None ↦ failed h EndNotHeld w | Some channel ↦ inside channel ]
      ])
  at_end h (Some k) channel w outside inside p q = p k
  at_end h None None w outside inside p q = refl
  at_end h None (Some channel) w outside inside p q = q channel

  received-beside : (h : Here) (e : Exchange) (l : Local) (w : World)
      → received h e l (beside c f w) ≡ counted_beside c f (received h e l w)
  received-beside h e l w =
      at_end h (input_link e.channel) (channel_at w e.channel) w _ _ (λ k. received_outside-beside h k e l w)
      (λ channel. received_inside-beside h e channel l w)

  sent-beside : (h : Here) (e : Exchange) (l : Local) (w : World)
      → sent h e l (beside c f w) ≡ counted_beside c f (sent h e l w)
  sent-beside h e l w =
      at_end h (output_link e.channel) (channel_at w e.channel) w _ _ (λ k. sent_outside-beside h k e l w)
      (λ channel. sent_inside-beside h e channel l w)

pub receives_beside : ReceivesBeside
receives_beside = λ h e l c f w. received-beside c f h e l w

pub sends_beside : SendsBeside
sends_beside = λ h e l c f w. sent-beside c f h e l w
