-- Alternations: what a process enables, waits for and disables.
use Rattle.std.specs.Prelude.{ℕ, ◌==◌, nat_lt, Bool, true, false, ◌||◌, if◌then◌else◌, ℤ, pos}
use Rattle.std.specs.Prelude.{length}
use Rattle.std.specs.Prelude.{Option, Some, None, is_some, slice_get}
use Rattle.std.specs.List.{list_any}
use Rattle.machine_state.specs.declared.fault.FaultKind.TheVariants.{AlternationOrder, OutsideCode, EndNotHeld}
use Rattle.machine_state.specs.declared.process.Mode.{Mode}
use Rattle.machine_state.specs.declared.process.Mode.TheVariants.{Plain, Enabling, Disabling}
use Rattle.machine_state.specs.declared.process.Condition.TheVariants.{Alternating}
use Rattle.machine_state.specs.declared.process.Channel.{Channel}
use Rattle.machine_state.specs.declared.link.InputLink.{InputLink}
use Rattle.machine_state.specs.Site.{Local}
use Rattle.machine_state.specs.LocalStep.{with_a_alone}
use Rattle.machine_state.specs.World.{World}
use Rattle.machine_state.specs.Moves.{counted, put, leave, dispatch, channel_at, with_channel, with_input}
use Rattle.machine_state.specs.Turn.{Turn, ran, answered, Here, failed, between, continued, followed}
use Rattle.machine_state.specs.Exchanges.{input_link}

-- the process goes on in this mode
abbrev pub in_mode : Here → Mode → Local → World → World
in_mode h mode l w = put h.process (record h.from { registers = between h.next l.registers; mode = mode }) l.memory w

abbrev pub begun : Here → Local → World → Turn
begun h l w = answered ran (counted (in_mode h (Enabling false) l w))

-- whether the alternation is ready: before, or by what is enabled now
abbrev pub ready_or : Mode → Bool → Mode
ready_or (Enabling is_ready) b = Enabling (is_ready || b)
ready_or mode b = mode

abbrev pub skip_enabled : Here → Bool → Local → World → Turn
skip_enabled h guard l w = answered ran (counted (in_mode h (ready_or h.from.mode guard) l w))

-- ---- what a process has enabled

-- Something that can be enabled: whether it has a sender or a byte, who has enabled it, and the world in which another
-- one has.
pub record Source : Type 0 where
  pub is_ready : Bool
  pub enabled : Option ℕ
  pub with_enabled : Option ℕ → World → World

abbrev pub of_channel : ℕ → Channel → Source
of_channel address channel = record {
  is_ready = is_some channel.waiting;
  enabled = channel.enabled;
  with_enabled = λ p w. with_channel address (record channel { enabled = p }) w;
}

abbrev pub of_link : ℕ → InputLink → Source
of_link k link = record {
  is_ready = is_some link.kept;
  enabled = link.enabled;
  with_enabled = λ p w. with_input k (record link { enabled = p }) w;
}

-- the channel or link at an address; None where there is none
abbrev pub source_at : World → ℕ → Option Source
source_at w address = elim (input_link address) [
  | Some k ↦ elim (slice_get w.links.inputs k) [ None ↦ None | Some link ↦ Some (of_link k link) ]
  | None ↦ elim (channel_at w address) [ None ↦ None | Some channel ↦ Some (of_channel address channel) ]
]

abbrev pub on_source : Here → ℕ → World → (Source → Turn) → Turn
on_source h address w k = elim (source_at w address) [ None ↦ failed h EndNotHeld w | Some source ↦ k source ]

abbrev pub source_enabled : Here → Local → World → Source → Turn
source_enabled h l w source =
    if is_some source.enabled then failed h AlternationOrder w
    else followed h (answered ran (counted (source.with_enabled (Some h.process)
    (in_mode h (ready_or h.from.mode source.is_ready) l w)))) w

abbrev pub channel_enabled : Here → Bool → ℕ → Local → World → Turn
channel_enabled h guard address l w =
    if guard then on_source h address w (source_enabled h l w)
    else followed h (answered ran (counted (continued h h.next l w))) w

-- ---- waiting

-- It goes on if something is ready; otherwise it waits.
abbrev pub waited_in : Here → Mode → Local → World → World
waited_in h (Enabling true) l w = counted (in_mode h (Disabling None) l w)
waited_in h _ l w =
    counted (dispatch h.pick (leave (put h.process
    (record h.from {
      registers = between h.next l.registers;
      mode = Disabling None;
      condition = Alternating;
    }) l.memory w)))

abbrev pub waited : Here → Local → World → Turn
waited h l w = answered ran (waited_in h h.from.mode l w)

-- ---- disabling

-- Of what is ready, the first that is disabled is selected: register A says whether it is this one.
abbrev pub selected : Mode → Bool → ℤ → Bool
selected (Disabling None) is_ready distance = is_ready
selected mode is_ready distance = false

abbrev pub chosen : Here → Bool → ℤ → Local → World → World
chosen h is_ready distance l w =
    if selected h.from.mode is_ready distance
    then in_mode h (Disabling (Some distance)) (with_a_alone (Some (pos 1)) l) w
    else continued h h.next (with_a_alone (Some (pos 0)) l) w

abbrev pub skip_disabled : Here → Bool → ℤ → Local → World → Turn
skip_disabled h guard distance l w = answered ran (counted (chosen h guard distance l w))

abbrev pub is_by : Option ℕ → ℕ → Bool
is_by None p = false
is_by (Some q) p = q == p

abbrev pub source_disabled : Here → ℤ → Local → World → Source → Turn
source_disabled h distance l w source =
    if is_by source.enabled h.process
    then followed h (answered ran (counted (source.with_enabled None (chosen h source.is_ready distance l w)))) w
    else failed h AlternationOrder w

abbrev pub channel_disabled : Here → Bool → ℕ → ℤ → Local → World → Turn
channel_disabled h guard address distance l w =
    if guard then on_source h address w (source_disabled h distance l w)
    else followed h (answered ran (counted (chosen h false distance l w))) w

-- ---- the end

-- whether a process has something enabled
abbrev pub has_enabled : World → ℕ → Bool
has_enabled w p =
    list_any (λ (link : InputLink). is_by link.enabled p) w.links.inputs
    || list_any (λ cell. elim cell [ None ↦ false | Some channel ↦ is_by channel.enabled p ]) w.channels

abbrev pub alternation_ended : Here → ℕ → Local → World → Turn
alternation_ended h to l w =
    if has_enabled w h.process then failed h AlternationOrder w
    else if nat_lt to (length h.contents.code)
    then answered ran (counted (put h.process
    (record h.from { registers = between to l.registers; mode = Plain }) l.memory w))
    else failed h OutsideCode w
