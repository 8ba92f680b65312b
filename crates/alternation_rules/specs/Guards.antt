-- The guards of an alternation: what they wait for, what their truth is known by, and where they lead.
use Rattle.std.specs.Prelude.{ℕ, ◌+◌, ◌&&◌, ◌||◌, not, nat_lt, if◌then◌else◌, Bool, true, false}
use Rattle.std.specs.Prelude.{ℤ, pos, ◌-ℤ◌, int_le, int_lt}
use Rattle.std.specs.Prelude.{List, [], ◌∷◌, length, slice_get, Option, Some, None, is_some, Result, Ok, Err}
use Rattle.std.specs.List.{list_any}
use Rattle.module_format.specs.Rows.{Fact}
use Rattle.module_format.specs.declared.fact.Fact.TheVariants.{Number}
use Rattle.module_format.specs.declared.rows.EndKind.{EndKind}
use Rattle.certificate.specs.Rights.{may_read_word}
use Rattle.module_format.specs.Contents.{label_at}
use Rattle.machine_state.specs.LocalStep.{target}
use Rattle.states.specs.declared.rule.Rule.{Rule}
use Rattle.states.specs.declared.rule.Rule.TheVariants as rules
use Rattle.states.specs.declared.known.Known.{Known}
use Rattle.states.specs.declared.known.Source.{Source}
use Rattle.states.specs.declared.known.Source.TheVariants.{From}
use Rattle.states.specs.declared.known.WordFact.TheVariants.{Alone}
use Rattle.states.specs.declared.known.Guard.{Guard}
use Rattle.states.specs.declared.known.GuardKind.{GuardKind}
use Rattle.states.specs.declared.known.GuardKind.TheVariants.{Channel, Skip}
use Rattle.states.specs.declared.known.GuardName.{GuardName}
use Rattle.states.specs.declared.known.GuardName.TheVariants.{Constant, Word}
use Rattle.states.specs.State.{State, is_same_number}
use Rattle.states.specs.Below.{below}
use Rattle.rulings.specs.Rulings.{Site}
use Rattle.rulings.specs.Channels.{channel_of, channels_meet}
use Rattle.states.specs.declared.state.TheConstants.{MAX_GUARDS}

-- ---- what a guard is known by

-- the same channel, or both nothing
abbrev pub is_same_kind : GuardKind → GuardKind → Bool
is_same_kind (Channel kind) (Channel other) = channels_meet kind 1 other 1
is_same_kind Skip Skip = true
is_same_kind _ _ = false

abbrev pub is_same_name : GuardName → GuardName → Bool
is_same_name (Constant value) (Constant other) = is_same_number value other
is_same_name (Word word) (Word other) = is_same_number word other
is_same_name _ _ = false

-- the guard waits for this and has this name
abbrev pub is_guard : GuardKind → GuardName → Guard → Bool
is_guard kind name guard = is_same_kind guard.kind kind && is_same_name guard.name name

-- the value of this word is the guard's
abbrev pub is_named_by : ℤ → Guard → Bool
is_named_by word guard = is_same_name guard.name (Word word)

-- the word that a number comes from
abbrev pub source_name : Source → Result GuardName Rule
source_name (From word) = Ok (Word word)
source_name _ = Err rules.Alternation

-- the word is none of the three below the workspace
abbrev pub is_off_scheduling : ℤ → ℤ → Bool
is_off_scheduling depth word = int_lt word (depth -ℤ pos 3) || int_le depth word

-- A name by which a guard may be enabled. `ldl` has asked for the one, and `alt` has left the other: both are asked
-- again, so that the rule says by itself that the guard has a value which stays.
abbrev pub may_name : Site → State → GuardName → Bool
may_name site s (Constant value) = true
may_name site s (Word word) = may_read_word site.contents s.context word && is_off_scheduling s.depth word

-- what the truth of a number is known by: its value, if it is a constant, or the word that it comes from
unfoldable pub name_of : Known → Result GuardName Rule
name_of known = elim known.fact [
  | Number lo hi ↦ if is_same_number lo hi then Ok (Constant lo) else source_name known.source
  | _ ↦ Err rules.Alternation
]

-- the channel that a word names, where a guard is disabled
unfoldable pub guard_channel : Fact → Result EndKind Rule
guard_channel fact = elim (channel_of (Alone fact)) [ None ↦ Err rules.Alternation | Some kind ↦ Ok kind ]

-- how far after `altend` a guard leads: a constant
unfoldable pub distance_of : Fact → Result ℤ Rule
distance_of (Number lo hi) = if is_same_number lo hi then Ok lo else Err rules.Alternation
distance_of _ = Err rules.Alternation

-- ---- the list

-- a skip may be enabled again, a channel may not
abbrev pub is_new : GuardKind → List Guard → Bool
is_new Skip guards = true
is_new (Channel kind) guards = not (list_any (λ (g : Guard). is_same_kind g.kind (Channel kind)) guards)

-- there is capacity for one more guard
abbrev pub has_room : List Guard → Bool
has_room guards = nat_lt (length guards) MAX_GUARDS

-- a guard as it is enabled
abbrev pub enabled_guard : GuardKind → GuardName → Guard
enabled_guard kind name = record { kind = kind; name = name; exit = None }

-- the guard of this number, if an alternation may have one of this number
unfoldable pub guard_at : List Guard → ℕ → Result Guard Rule
guard_at guards n =
    if nat_lt n MAX_GUARDS
    then elim (slice_get guards n) [ None ↦ Err rules.Alternation | Some guard ↦ Ok guard ]
    else Err rules.Alternation

-- a guard as it is disabled
abbrev pub disabled_guard : ℤ → Guard → Guard
disabled_guard distance guard = record guard { exit = Some distance }

-- ---- exits

-- the code offset to which a guard leads that is disabled
abbrev pub exit_at : Site → Guard → Option ℕ
exit_at site guard = elim guard.exit [
  | None ↦ None
  | Some distance ↦ Some (target (site.at + site.length) distance)
]

-- the code offsets to which the guards lead, in their order
abbrev pub exits : Site → List Guard → List ℕ
exits site [] = []
exits site (guard ∷ guards) = elim guard.exit [
  | None ↦ exits site guards
  | Some distance ↦ target (site.at + site.length) distance ∷ exits site guards
]

-- the guard leads to a label
abbrev pub leads_to_label : Site → Guard → Bool
leads_to_label site guard = elim (exit_at site guard) [
  | None ↦ false
  | Some to ↦ is_some (label_at site.contents to)
]

-- it leads forward
abbrev pub leads_forward : Guard → Bool
leads_forward guard = elim guard.exit [ None ↦ false | Some distance ↦ int_le (pos 0) distance ]

-- what it costs a state to go on at the label at an offset, or the rule that is broken
abbrev pub label_below : Site → State → ℕ → Result ℕ Rule
label_below site s to = elim (label_at site.contents to) [ None ↦ Err rules.Alternation | Some t ↦ below s t ]

-- what it costs it to go on where the guard leads
abbrev pub exit_below : Site → State → Guard → Result ℕ Rule
exit_below site s guard = elim (exit_at site guard) [ None ↦ Err rules.Alternation | Some to ↦ label_below site s to ]

-- the state is below the label to which the guard leads
abbrev pub is_below_exit : Site → State → Guard → Bool
is_below_exit site s guard = elim (exit_below site s guard) [ Ok cost ↦ true | Err broken ↦ false ]

-- the state cannot pay the label to which the guard leads
abbrev pub is_unpaid : Rule → Bool
is_unpaid rules.Budget = true
is_unpaid _ = false

abbrev pub has_unpaid_exit : Site → State → Guard → Bool
has_unpaid_exit site s guard = elim (exit_below site s guard) [ Ok cost ↦ false | Err broken ↦ is_unpaid broken ]
