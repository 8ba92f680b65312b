-- The explanation of the verdict on a module: what is known at each instruction, up to the first rule that is broken.
use Rattle.std.specs.Prelude.{◌≡◌, ℕ, zero, suc, ◌+◌, ◌≤◌, ◌-◌, nat_le, if◌then◌else◌, pos, length, ◌++◌, Option, Some}
use Rattle.std.specs.Prelude.{None, Result, Ok, Err}
use Rattle.prefix_decoder.specs.declared.decoding.Instr.{Instr}
use Rattle.prefix_decoder.specs.declared.decoding.DecodeFault.{DecodeFault}
use Rattle.prefix_decoder.specs.Fetching.{fetched}
use Rattle.module_format.specs.Contents.{Contents}
use Rattle.states.specs.declared.known.Mode.TheVariants.{Plain}
use Rattle.states.specs.declared.rule.Rule.{Rule}
use Rattle.states.specs.State.{State, root_state}
use Rattle.certified_worlds.specs.Certified.{state_at, entering}
use Rattle.verifier.specs.declared.stop.Breach.{Breach}
use Rattle.verifier.specs.Judge.{judged_at, start_among}
use Rattle.fact_texts.specs.Texts.{Text}
use Rattle.state_texts.specs.declared.settings.Setting.{Setting}
use Rattle.explanation_parts.specs.Refusals.{is_at_entry, hidden_text, unspelled_text, ended_text}
use Rattle.explanation_parts.specs.Sights.{sight_text, setting_after}
use Rattle.sentences.specs.Breaches.{breach_text}

-- ---- the walk

-- the state that breaks the rule: the one that falls into the offset, or the one there
abbrev pub breaking : Contents → ℕ → Option State → Rule → Option State
breaking m at before broken = if is_at_entry (entering m at before) broken then before else state_at m at before

abbrev pub starts_text : (ℕ → Option State → Setting → Text) → ℕ → ℕ → Option State → Setting → Option ℕ → Text
starts_text go at to after before (Some inside) = hidden_text at inside
starts_text go at to after before None = go to after before

-- the instruction that breaks a rule, the state that breaks it, and why
unfoldable pub last_text : Contents → ℕ → Instr → Option State → Setting → Rule → Text
last_text m at i before setting broken =
    let by = breaking m at before broken in
    sight_text m at setting by ++ breach_text m at i broken (is_at_entry (entering m at before) broken) by

abbrev pub rule_text : Contents → (ℕ → Option State → Setting → Text) → ℕ → Instr → Option State → Setting
    → Result (Option State) Rule → Text
rule_text m go at i before setting (Err broken) = last_text m at i before setting broken
rule_text m go at i before setting (Ok after) =
    let reached = state_at m at before in
    sight_text m at setting reached
    ++ starts_text go at (at + i.len) after (setting_after setting reached) (start_among m (at + 1) (i.len - 1))

abbrev pub fetched_text : Contents → (ℕ → Option State → Setting → Text) → ℕ → Option State → Setting
    → Result Instr DecodeFault → Text
fetched_text m go at before setting (Err e) = unspelled_text m at
fetched_text m go at before setting (Ok i) = rule_text m go at i before setting (judged_at m at before i)

-- from an offset on, with at most this number of instructions, where the setting before is this one
unfoldable pub explained : ℕ → Contents → ℕ → Option State → Setting → Text
explained zero m at before setting = ended_text m at before
explained (suc more) m at before setting =
    if nat_le (length m.code) at then ended_text m at before
    else fetched_text m (λ to after next. explained more m to after next) at before setting (fetched m.code at)

-- the setting of the root
abbrev pub root_setting : Setting
root_setting = record { context = 0; depth = pos 0; mode = Plain }

abbrev pub explanation : Contents → Text
explanation m = explained (length m.code) m 0 (Some (root_state m)) root_setting

-- it is not known that the module is refused at the offset
abbrev pub IsElsewhere : Option Breach → ℕ → Type 0
IsElsewhere known at = (rule : Rule) → known ≡ Some (record { rule = rule; offset = at }) → ⊥

-- What is written goes up to an offset into which this state falls, where the setting before is this one.
pub record Explains (m : Contents) (written : Text) (at : ℕ) (before : Option State) (setting : Setting) : Type 0 where
  pub more : ℕ
  pub enough : length m.code ≤ at + more
  pub all : explanation m ≡ written ++ explained more m at before setting
