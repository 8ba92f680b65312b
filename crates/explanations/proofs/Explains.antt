-- What is written of a module, one instruction after another.
use Rattle.std.proofs.Common.{◌≡◌, ◌∙◌, ℕ, zero, suc, ◌+◌, ◌-◌, ◌<◌, ◌≤◌, ◌++◌, refl, leb, length, Option, Some, None}
use Rattle.std.proofs.Common.{Result, Ok, Err, Bool, true, false, cond, sym, ap, arith, inl, inr, append_assoc, []}
use Rattle.std.proofs.Common.{if◌then◌else◌}
use Rattle.std.proofs.lemmas.Bool.Decides.{leb_tells}
use Rattle.prefix_decoder.specs.declared.decoding.Instr.{Instr}
use Rattle.prefix_decoder.specs.declared.decoding.DecodeFault.{DecodeFault}
use Rattle.prefix_decoder.specs.Fetching.{fetched}
use Rattle.module_format.specs.Contents.{Contents}
use Rattle.states.specs.declared.rule.Rule.{Rule}
use Rattle.states.specs.State.{State, root_state}
use Rattle.certified_worlds.specs.Certified.{state_at, entering}
use Rattle.verifier.specs.Judge.{judged_at, start_among}
use Rattle.fact_texts.specs.Texts.{Text}
use Rattle.state_texts.specs.declared.settings.Setting.{Setting}
use Rattle.explanation_parts.specs.Refusals.{hidden_text, unspelled_text, ended_text, is_at_entry}
use Rattle.explanation_parts.specs.Sights.{sight_text, setting_after}
use Rattle.sentences.specs.Breaches.{breach_text}
use Rattle.explanations.specs.Explaining.{explained, explanation, fetched_text, rule_text, last_text, starts_text}
use Rattle.explanations.specs.Explaining.{root_setting, breaking, Explains}

-- nothing is written yet
pub begins : (m : Contents) (text : Text) (at : ℕ) (before : Option State) (setting : Setting) → text ≡ [] → at ≡ 0
    → before ≡ Some (root_state m) → setting ≡ root_setting → Explains m text at before setting
begins m text at before setting empty first root plain = record {
  more = length m.code;
  enough = omega arith;
  all =
      ap (λ (t : Text). t ++ explained (length m.code) m 0 (Some (root_state m)) root_setting) (sym empty)
      ∙ ap (λ (o : ℕ). text ++ explained (length m.code) m o (Some (root_state m)) root_setting) (sym first)
      ∙ ap (λ (s : Option State). text ++ explained (length m.code) m at s root_setting) (sym root)
      ∙ ap (λ (s : Setting). text ++ explained (length m.code) m at before s) (sym plain);
}

-- one instruction more
record Further (m : Contents) (written : Text) (at : ℕ) (before : Option State) (setting : Setting) : Type 0 where
  pub more : ℕ
  pub enough : length m.code ≤ at + suc more
  pub all : explanation m ≡ written
      ++ fetched_text m (λ to after next. explained more m to after next) at before setting (fetched m.code at)

further-by : (m : Contents) (written : Text) (at more : ℕ) (before : Option State) (setting : Setting)
    → at < length m.code → length m.code ≤ at + more
    → explanation m ≡ written ++ explained more m at before setting → Further m written at before setting
unfolding explained
further-by m written at zero before setting low enough all = absurd (omega arith)
further-by m written at (suc n) before setting low enough all =
    let inside : leb (length m.code) at ≡ false =
    elim (leb_tells (length m.code) at) [ inl t ↦ absurd (omega (arith, t.1)) | inr t ↦ t.0 ] in
    record {
      more = n;
      enough = enough;
      all = all ∙ ap (λ (b : Bool). written ++ cond b (ended_text m at before)
          (fetched_text m (λ to after next. explained n m to after next) at before setting (fetched m.code at))) inside;
    }

further : (m : Contents) (written : Text) (at : ℕ) (before : Option State) (setting : Setting) → at < length m.code
    → Explains m written at before setting → Further m written at before setting
further m written at before setting low e = further-by m written at e.more before setting low e.enough e.all

-- the text ends where no instruction is spelled
pub ends_unspelled : (m : Contents) (written text : Text) (at : ℕ) (before : Option State) (setting : Setting)
    (fault : DecodeFault) → Explains m written at before setting → at < length m.code → fetched m.code at ≡ Err fault
    → text ≡ written ++ unspelled_text m at → text ≡ explanation m
ends_unspelled m written text at before setting fault e low spelled is =
    let f = further m written at before setting low e in
    is ∙ sym (f.all ∙ ap (λ (r : Result Instr DecodeFault). written
    ++ fetched_text m (λ to after next. explained f.more m to after next) at before setting r) spelled)

explained_end : (n : ℕ) (m : Contents) (at : ℕ) (before : Option State) (setting : Setting) → length m.code ≤ at
    → explained n m at before setting ≡ ended_text m at before
unfolding explained
explained_end zero m at before setting high = refl
explained_end (suc n) m at before setting high =
    let beyond : leb (length m.code) at ≡ true =
    elim (leb_tells (length m.code) at) [ inl t ↦ t.0 | inr t ↦ absurd (omega (arith, t.1)) ] in
    ap (λ (b : Bool). cond b (ended_text m at before)
    (fetched_text m (λ to after next. explained n m to after next) at before setting (fetched m.code at))) beyond

-- it ends at the end of the code
pub ends_there : (m : Contents) (written text : Text) (at : ℕ) (before : Option State) (setting : Setting)
    → Explains m written at before setting → length m.code ≤ at → text ≡ written ++ ended_text m at before
    → text ≡ explanation m
ends_there m written text at before setting e high is =
    is ∙ ap (λ (t : Text). written ++ t) (sym (explained_end e.more m at before setting high)) ∙ sym e.all

-- what is written of an instruction, by what is judged of it
module _ (m : Contents) (written : Text) (at : ℕ) (before : Option State) (setting : Setting) (i : Instr)
    (e : Explains m written at before setting) (low : at < length m.code) (spelled : fetched m.code at ≡ Ok i) where
  judged_all : (judged : Result (Option State) Rule) → judged_at m at before i ≡ judged
      → (f : Further m written at before setting) → explanation m
      ≡ written ++ rule_text m (λ to after next. explained f.more m to after next) at i before setting judged
  judged_all judged is f =
      f.all ∙ ap (λ (r : Result Instr DecodeFault). written
      ++ fetched_text m (λ to after next. explained f.more m to after next) at before setting r) spelled
      ∙ ap (λ (r : Result (Option State) Rule). written
      ++ rule_text m (λ to after next. explained f.more m to after next) at i before setting r) is

  -- it ends at a rule that is broken
  pub ends_broken : (rule : Rule) (text : Text) → judged_at m at before i ≡ Err rule
      → text ≡ written ++ last_text m at i before setting rule → text ≡ explanation m
  ends_broken rule text judged is =
      is ∙ sym (judged_all (Err rule) judged (further m written at before setting low e))

  module _ (after : Option State) (judged : judged_at m at before i ≡ Ok after) (seen : Text)
      (sight : seen ≡ written ++ sight_text m at setting (state_at m at before)) where
    starts_all : (start : Option ℕ) → start_among m (at + 1) (i.len - 1) ≡ start
        → (f : Further m written at before setting) → explanation m
        ≡ seen ++ starts_text (λ to after next. explained f.more m to after next) at (at + i.len) after
        (setting_after setting (state_at m at before)) start
    starts_all start is f =
        let seen_by = sight_text m at setting (state_at m at before) in
        let rest = λ (o : Option ℕ). starts_text (λ to after next. explained f.more m to after next) at (at + i.len)
        after (setting_after setting (state_at m at before)) o in
        judged_all (Ok after) judged f ∙ ap (λ (o : Option ℕ). written ++ (seen_by ++ rest o)) is
        ∙ sym (append_assoc written seen_by (rest start)) ∙ ap (λ (t : Text). t ++ rest start) (sym sight)

    -- it ends at a start within the instruction
    pub ends_hidden : (inside : ℕ) (text : Text) → start_among m (at + 1) (i.len - 1) ≡ Some inside
        → text ≡ seen ++ hidden_text at inside → text ≡ explanation m
    ends_hidden inside text start is =
        is ∙ sym (starts_all (Some inside) start (further m written at before setting low e))

    -- it goes on
    pub goes_on : 1 ≤ i.len → start_among m (at + 1) (i.len - 1) ≡ None
        → Explains m seen (at + i.len) after (setting_after setting (state_at m at before))
    goes_on some none =
        let f = further m written at before setting low e in
        let enough = f.enough in
        record { more = f.more; enough = omega arith; all = starts_all None none f }

-- ---- the last instruction

-- its text is the state that breaks the rule, and why
pub is_last : (m other : Contents) (at : ℕ) (i : Instr) (before by sighted broken_in : Option State)
    (setting : Setting) (rule : Rule) (entered : Result ℕ Rule) (at_entry : Bool) (old seen new : Text) → other ≡ m
    → entered ≡ entering m at before → at_entry ≡ is_at_entry entered rule
    → by ≡ (if at_entry then before else state_at other at before) → sighted ≡ by → broken_in ≡ by
    → seen ≡ old ++ sight_text m at setting sighted → new ≡ seen ++ breach_text m at i rule at_entry broken_in
    → new ≡ old ++ last_text m at i before setting rule
unfolding last_text
is_last m other at i before by sighted broken_in setting rule entered at_entry old seen new same cost is state first
    second sight breach =
    let how : at_entry ≡ is_at_entry (entering m at before) rule =
    is ∙ ap (λ (r : Result ℕ Rule). is_at_entry r rule) cost in
    let which : by ≡ breaking m at before rule =
    state ∙ ap (λ (c : Contents). if at_entry then before else state_at c at before) same
    ∙ ap (λ (b : Bool). if b then before else state_at m at before) how in
    breach ∙ ap (λ (t : Text). t ++ breach_text m at i rule at_entry broken_in) sight
    ∙ append_assoc old (sight_text m at setting sighted) (breach_text m at i rule at_entry broken_in)
    ∙ ap (λ (s : Option State). old ++ (sight_text m at setting s ++ breach_text m at i rule at_entry broken_in))
    (first ∙ which)
    ∙ ap (λ (s : Option State). old
    ++ (sight_text m at setting (breaking m at before rule) ++ breach_text m at i rule at_entry s)) (second ∙ which)
    ∙ ap (λ (b : Bool). old ++ (sight_text m at setting (breaking m at before rule)
    ++ breach_text m at i rule b (breaking m at before rule))) how
