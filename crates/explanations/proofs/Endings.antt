-- An explanation ends as the verdict says.
use Rattle.std.proofs.Common.{◌∙◌, ℕ, zero, suc, ◌+◌, ◌-◌, ◌++◌, [], refl, leb, length, Option, Some, None, Result}
use Rattle.std.proofs.Common.{Ok, Err, Bool, true, false, cond, sym, ap, append_assoc}
use Rattle.prefix_decoder.specs.declared.decoding.Instr.{Instr}
use Rattle.prefix_decoder.specs.declared.decoding.DecodeFault.{DecodeFault}
use Rattle.prefix_decoder.specs.Fetching.{fetched}
use Rattle.module_format.specs.Contents.{Contents}
use Rattle.states.specs.declared.rule.Rule.{Rule}
use Rattle.states.specs.State.{State}
use Rattle.certified_worlds.specs.Certified.{state_at, entering}
use Rattle.verifier.specs.Judge.{Verdict, refused, at_the_end, past_starts, past_rule, past_spelling, judged_at}
use Rattle.verifier.specs.Judge.{start_among, judge}
use Rattle.fact_texts.specs.Texts.{Text}
use Rattle.state_texts.specs.declared.settings.Setting.{Setting}
use Rattle.state_texts.specs.FrameTexts.{frame_text}
use Rattle.explanation_parts.specs.Refusals.{is_at_entry, ended_text, accepted_text, run_past, past_text}
use Rattle.explanation_parts.specs.Sights.{sight_text, setting_after}
use Rattle.sentences.specs.Breaches.{breach_text, rows_before}
use Rattle.explanations.specs.Explaining.{explained, fetched_text, rule_text, last_text, starts_text, breaking}
use Rattle.explanations.specs.Endings.{Tells}

-- a text that follows another ends alike
later : (m : Contents) (v : Verdict) (front text : Text) → Tells m v text → Tells m v (front ++ text)
later m (Ok _) front text told =
    (front ++ told.0, ap (λ (t : Text). front ++ t) told.1 ∙ sym (append_assoc front told.0 (accepted_text m.budget)))
later m (Err breach) front text told =
    (told.0, (front ++ told.1.0, ap (λ (t : Text). front ++ t) told.1.1 ∙ sym (append_assoc front told.1.0 _)))

-- one of two texts, as one of two verdicts
either : (m : Contents) (b : Bool) (v w : Verdict) (s t : Text) → Tells m v s → Tells m w t
    → Tells m (cond b v w) (cond b s t)
either m true v w s t first second = first
either m false v w s t first second = second

at_end : (m : Contents) (at : ℕ) (before : Option State) → Tells m (at_the_end at before) (ended_text m at before)
unfolding ended_text run_past past_text
at_end m at None = ([], refl)
at_end m at (Some s) = (_, (frame_text m s, refl))

at_breach : (m : Contents) (at : ℕ) (i : Instr) (broken : Rule) (at_entry : Bool) (by : Option State)
    → Tells m (refused broken at) (breach_text m at i broken at_entry by)
unfolding breach_text
at_breach m at i broken at_entry None = (_, ([], refl))
at_breach m at i broken at_entry (Some s) =
    later m (refused broken at) (frame_text m s) _ (_, (rows_before m at i broken at_entry s, refl))

module _ (m : Contents) (go : ℕ → Option State → Verdict) (write : ℕ → Option State → Setting → Text)
    (told : (to : ℕ) (after : Option State) (next : Setting) → Tells m (go to after) (write to after next))
    (at : ℕ) where
  at_start : (to : ℕ) (after : Option State) (setting : Setting) (start : Option ℕ)
      → Tells m (past_starts go to after start) (starts_text write at to after setting start)
  at_start to after setting None = told to after setting
  at_start to after setting (Some inside) = (_, ([], refl))

  at_rule : (before : Option State) (i : Instr) (setting : Setting) (judged : Result (Option State) Rule)
      → Tells m (past_rule m go at i.len judged) (rule_text m write at i before setting judged)
  unfolding last_text
  at_rule before i setting (Err broken) =
      let by = breaking m at before broken in
      later m (refused broken at) (sight_text m at setting by) _
      (at_breach m at i broken (is_at_entry (entering m at before) broken) by)
  at_rule before i setting (Ok after) =
      let reached = state_at m at before in
      let start = start_among m (at + 1) (i.len - 1) in
      later m (past_starts go (at + i.len) after start) (sight_text m at setting reached) _
      (at_start (at + i.len) after (setting_after setting reached) start)

  at_spelling : (before : Option State) (setting : Setting) (fetch : Result Instr DecodeFault)
      → Tells m (past_spelling m go at before fetch) (fetched_text m write at before setting fetch)
  at_spelling before setting (Err e) = (_, (_, refl))
  at_spelling before setting (Ok i) = at_rule before i setting (judged_at m at before i)

-- from an offset on
pub tells : (n : ℕ) (m : Contents) (at : ℕ) (before : Option State) (setting : Setting)
    → Tells m (judge n m at before) (explained n m at before setting)
unfolding judge explained
tells zero m at before setting = at_end m at before
tells (suc n) m at before setting =
    either m (leb (length m.code) at) (at_the_end at before) _ (ended_text m at before) _ (at_end m at before)
    (at_spelling m (λ to after. judge n m to after) (λ to after next. explained n m to after next)
    (λ to after next. tells n m to after next) at before setting (fetched m.code at))
