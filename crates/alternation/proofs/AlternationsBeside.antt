-- What comes of an instruction of an alternation, whatever the counters and the fault are.
use Rattle.std.proofs.Common.{◌≡◌, ℕ, ℤ, pos, nat_lt, Bool, true, false, if◌then◌else◌, Option, Some, None, is_some}
use Rattle.std.proofs.Common.{IfSome, length, refl, ap, ◌∙◌, slice_get}
use Rattle.machine_state.specs.declared.fault.Fault.{Fault}
use Rattle.machine_state.specs.declared.fault.FaultKind.TheVariants.{AlternationOrder, OutsideCode, EndNotHeld}
use Rattle.machine_state.specs.declared.process.Channel.{Channel}
use Rattle.machine_state.specs.declared.process.Mode.{Mode}
use Rattle.machine_state.specs.declared.process.Mode.TheVariants.{Plain, Enabling, Disabling}
use Rattle.machine_state.specs.declared.process.Condition.TheVariants.{Alternating}
use Rattle.machine_state.specs.declared.link.InputLink.{InputLink}
use Rattle.machine_state.specs.Site.{Local}
use Rattle.machine_state.specs.LocalStep.{with_a_alone}
use Rattle.machine_state.specs.World.{World, Counters}
use Rattle.machine_state.specs.Moves.{counted, put, leave, dispatch, channel_at}
use Rattle.machine_state.specs.Turn.{Turn, ran, answered, Here, failed, between, continued, followed}
use Rattle.machine_state.specs.Exchanges.{input_link}
use Rattle.machine_state.specs.Alternations.{in_mode, begun, ready_or, skip_enabled, Source, of_channel, of_link}
use Rattle.machine_state.specs.Alternations.{source_at, on_source, source_enabled, channel_enabled, waited_in, waited}
use Rattle.machine_state.specs.Alternations.{selected, chosen, skip_disabled, is_by, source_disabled}
use Rattle.machine_state.specs.Alternations.{channel_disabled, has_enabled, alternation_ended}
use Rattle.traffic.specs.Beside.{beside, counted_beside, CountsBeside}
use Rattle.traffic.proofs.Beside.{either}
use Rattle.traffic.proofs.TurnsBeside.{either_turn, executed-beside, followed-beside, left-beside}

module _ (c : Counters) (f : Option Fault) where
  -- ---- what can be enabled

  -- to enable it changes neither the counters nor the fault
  abbrev LeavesCounters : Source → Type 0
  LeavesCounters source = (p : Option ℕ) (w : World)
      → source.with_enabled p (beside c f w) ≡ beside c f (source.with_enabled p w)

  source-leaves : (w : World) (address : ℕ) → IfSome (source_at w address) LeavesCounters
  source-leaves w address = cases (input_link address)
    where
      on_link : (k : ℕ) (o : Option InputLink)
          → IfSome (elim o as (λ x. Option Source) [ None ↦ None | Some link ↦ Some (of_link k link) ]) LeavesCounters
      on_link k None = tt
      on_link k (Some link) = λ p v. refl

      on_channel : (o : Option Channel)
          → IfSome (elim o as (λ x. Option Source) [
            | None ↦ None
            | Some channel ↦ Some (of_channel address channel)
          ]) LeavesCounters
      on_channel None = tt
      on_channel (Some channel) = λ p v. refl

      cases : (o : Option ℕ)
          → IfSome (elim o as (λ x. Option Source) [
            | Some k ↦ elim (slice_get w.links.inputs k) as (λ x. Option Source) [
              | None ↦ None
              | Some link ↦ Some (of_link k link)
            ]
            | None ↦ elim (channel_at w address) as (λ x. Option Source) [
              | None ↦ None
              | Some channel ↦ Some (of_channel address channel)
            ]
          ]) LeavesCounters
      cases (Some k) = on_link k (slice_get w.links.inputs k)
      cases None = on_channel (channel_at w address)

  on_source-beside : (h : Here) (address : ℕ) (w : World) (k : Source → Turn) {t : Source → Turn}
      → ((source : Source) → LeavesCounters source → t source ≡ counted_beside c f (k source))
      → on_source h address (beside c f w) t ≡ counted_beside c f (on_source h address w k)
  on_source-beside h address w k {t} each = cases (source_at w address) (source-leaves w address)
    where
      cases : (o : Option Source) → IfSome o LeavesCounters
          → elim o as (λ x. Turn) [ None ↦ failed h EndNotHeld (beside c f w) | Some source ↦ t source ]
          ≡ counted_beside c f (elim o as (λ x. Turn) [ None ↦ failed h EndNotHeld w | Some source ↦ k source ])
      cases None leaves = refl
      cases (Some source) leaves = each source leaves

  -- ---- enabling

  source_enabled-beside : (h : Here) (l : Local) (w : World) (source : Source) → LeavesCounters source
      → source_enabled h l (beside c f w) source ≡ counted_beside c f (source_enabled h l w source)
  source_enabled-beside h l w source leaves =
      let there : World = in_mode h (ready_or h.from.mode source.is_ready) l w in
      let enabled : World = source.with_enabled (Some h.process) there in
      either_turn c f (is_some source.enabled) (failed h AlternationOrder w)
      (followed h (answered ran (counted enabled)) w) refl
      (followed-beside c f h (answered ran (counted enabled)) w
      (executed-beside c f ran enabled (leaves (Some h.process) there)))

  channel_enabled-beside : (h : Here) (guard : Bool) (address : ℕ) (l : Local) (w : World)
      → channel_enabled h guard address l (beside c f w) ≡ counted_beside c f (channel_enabled h guard address l w)
  channel_enabled-beside h guard address l w =
      let passed : Turn = answered ran (counted (continued h h.next l w)) in
      either_turn c f guard (on_source h address w (source_enabled h l w)) (followed h passed w)
      (on_source-beside h address w (source_enabled h l w) (source_enabled-beside h l w))
      (followed-beside c f h passed w refl)

  -- ---- waiting

  waited_in-beside : (h : Here) (mode : Mode) (l : Local) (w : World)
      → answered ran (waited_in h mode l (beside c f w)) ≡ counted_beside c f (answered ran (waited_in h mode l w))
  waited_in-beside h (Enabling true) l w = refl
  waited_in-beside h _ l w =
      let task = record h.from {
        registers = between h.next l.registers;
        mode = Disabling None;
        condition = Alternating;
      } in
      let there : World = put h.process task l.memory w in
      executed-beside c f ran (dispatch h.pick (leave there)) (left-beside c f h there refl)

  -- ---- disabling

  chosen-beside : (h : Here) (is_ready : Bool) (distance : ℤ) (l : Local) (w : World)
      → chosen h is_ready distance l (beside c f w) ≡ beside c f (chosen h is_ready distance l w)
  chosen-beside h is_ready distance l w =
      either c f (selected h.from.mode is_ready distance)
      (in_mode h (Disabling (Some distance)) (with_a_alone (Some (pos 1)) l) w)
      (continued h h.next (with_a_alone (Some (pos 0)) l) w) refl refl

  source_disabled-beside : (h : Here) (distance : ℤ) (l : Local) (w : World) (source : Source) → LeavesCounters source
      → source_disabled h distance l (beside c f w) source ≡ counted_beside c f (source_disabled h distance l w source)
  source_disabled-beside h distance l w source leaves =
      let there : World = chosen h source.is_ready distance l w in
      let disabled : World = source.with_enabled None there in
      either_turn c f (is_by source.enabled h.process) (followed h (answered ran (counted disabled)) w)
      (failed h AlternationOrder w)
      (followed-beside c f h (answered ran (counted disabled)) w
      (executed-beside c f ran disabled
      (ap (source.with_enabled None) (chosen-beside h source.is_ready distance l w) ∙ leaves None there)))
      refl

  channel_disabled-beside : (h : Here) (guard : Bool) (address : ℕ) (distance : ℤ) (l : Local) (w : World)
      → channel_disabled h guard address distance l (beside c f w)
      ≡ counted_beside c f (channel_disabled h guard address distance l w)
  channel_disabled-beside h guard address distance l w =
      let there : World = chosen h false distance l w in
      either_turn c f guard (on_source h address w (source_disabled h distance l w))
      (followed h (answered ran (counted there)) w)
      (on_source-beside h address w (source_disabled h distance l w) (source_disabled-beside h distance l w))
      (followed-beside c f h (answered ran (counted there)) w
      (executed-beside c f ran there (chosen-beside h false distance l w)))

  alternation_ended-beside : (h : Here) (to : ℕ) (l : Local) (w : World)
      → alternation_ended h to l (beside c f w) ≡ counted_beside c f (alternation_ended h to l w)
  alternation_ended-beside h to l w =
      let task = record h.from { registers = between to l.registers; mode = Plain } in
      let ended : Turn = answered ran (counted (put h.process task l.memory w)) in
      let is_within = nat_lt to (length h.contents.code) in
      either_turn c f (has_enabled w h.process) (failed h AlternationOrder w)
      (if is_within then ended else failed h OutsideCode w) refl
      (either_turn c f is_within ended (failed h OutsideCode w) refl refl)

pub begins_beside : (h : Here) (l : Local) → CountsBeside (begun h l)
begins_beside h l = λ c f w. refl

pub skips_enabled_beside : (h : Here) (guard : Bool) (l : Local) → CountsBeside (skip_enabled h guard l)
skips_enabled_beside h guard l = λ c f w. refl

pub channels_enabled_beside : (h : Here) (guard : Bool) (address : ℕ) (l : Local)
    → CountsBeside (channel_enabled h guard address l)
channels_enabled_beside h guard address l = λ c f w. channel_enabled-beside c f h guard address l w

pub waits_beside : (h : Here) (l : Local) → CountsBeside (waited h l)
waits_beside h l = λ c f w. waited_in-beside c f h h.from.mode l w

pub skips_disabled_beside : (h : Here) (guard : Bool) (distance : ℤ) (l : Local)
    → CountsBeside (skip_disabled h guard distance l)
skips_disabled_beside h guard distance l =
    λ c f w. executed-beside c f ran (chosen h guard distance l w) (chosen-beside c f h guard distance l w)

pub channels_disabled_beside : (h : Here) (guard : Bool) (address : ℕ) (distance : ℤ) (l : Local)
    → CountsBeside (channel_disabled h guard address distance l)
channels_disabled_beside h guard address distance l =
    λ c f w. channel_disabled-beside c f h guard address distance l w

pub ends_beside : (h : Here) (to : ℕ) (l : Local) → CountsBeside (alternation_ended h to l)
ends_beside h to l = λ c f w. alternation_ended-beside c f h to l w
