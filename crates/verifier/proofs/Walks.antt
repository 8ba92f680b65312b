-- What a walk comes to, in terms of the verdict.
use Rattle.std.proofs.Common.{◌≡◌, ◌∙◌, ℕ, zero, suc, ◌+◌, ◌-◌, ◌<◌, ◌≤◌, refl, leb, Option, Some, None, Result, Ok}
use Rattle.std.proofs.Common.{Err, sym, ap, subst, arith, inl, inr, Bool, true, false, cond, length}
use Rattle.std.proofs.lemmas.Bool.{cases_Bool}
use Rattle.std.proofs.lemmas.Bool.Decides.{leb_tells}
use Rattle.prefix_decoder.specs.declared.decoding.Instr.{Instr}
use Rattle.prefix_decoder.specs.declared.decoding.DecodeFault.{DecodeFault}
use Rattle.prefix_decoder.specs.Fetching.{fetched}
use Rattle.module_format.specs.Contents.{Contents}
use Rattle.certificate.specs.Starts.{is_start}
use Rattle.states.specs.declared.rule.Rule.{Rule}
use Rattle.states.specs.declared.rule.Rule.TheVariants as rules
use Rattle.states.specs.State.{State}
use Rattle.states.specs.declared.state.State.{State as InMemory}
use Rattle.states.specs.Views.{state_of, BelongsTo}
use Rattle.certified_worlds.specs.Certified.{entering, state_at}
use Rattle.verifier.specs.declared.stop.Breach.{Breach}
use Rattle.verifier.specs.Judge.{Verdict, judged_once, judged_at, judge, verdict, refused, start_among, at_the_end}
use Rattle.verifier.specs.Judge.{past_starts, past_rule, past_spelling}
use Rattle.std.specs.Prelude.{⊤}
use Rattle.verifier.specs.declared.walk.Walk.{Walk}
use Rattle.verifier.specs.declared.walk.Arrival.{Arrival}
use Rattle.verifier.specs.Walking.{OnTheWay, walked, before_of, judged_of, start_in, IsBegun, HasArrived, Arrives}
use Rattle.verifier.specs.Walking.{IsUnspelled, HasGoneOn, GoesOn, Breaks, by_rule, by_start}
use Rattle.verifier.specs.Judging.{Judges, AreLeft}
use Rattle.verifier.proofs.RowsLeft.{left-further}
use Rattle.verifier.proofs.Passing.{start, misspelled-is, broken-is, hidden-is, goes-on, ended-is}

-- what is judged where falling into the offset costs this and its state is this one
pub judged_there : (m : Contents) (at : ℕ) (before reached : Option State) (i : Instr) (entered : Result ℕ Rule)
    → entered ≡ entering m at before → reached ≡ state_at m at before
    → judged_once m at entered i reached ≡ judged_at m at before i
unfolding judged_at
judged_there m at before reached i entered e r =
    ap (λ (x : Result ℕ Rule). judged_once m at x i reached) e
    ∙ ap (λ (x : Option State). judged_once m at (entering m at before) i x) r

-- ---- no rule that the verdict names lies before the rest of the code

pub start_is_beyond : (m : Contents) (at more o : ℕ) → start_among m at more ≡ Some o → at ≤ o
start_is_beyond m at zero o h = absurd (cc)
start_is_beyond m at (suc more) o h = elim (cases_Bool (is_start m at)) [
  | inl l ↦
      let e : Some at ≡ Some o = sym (ap (λ (b : Bool). cond b (Some at) (start_among m (at + 1) more)) l) ∙ h in
      let same : at ≡ o = cc in omega arith
  | inr l ↦
      let rest : start_among m (at + 1) more ≡ Some o =
      sym (ap (λ (b : Bool). cond b (Some at) (start_among m (at + 1) more)) l) ∙ h in
      let low = start_is_beyond m (at + 1) more o rest in omega arith
]

-- the offset of a refusal
offset_is : (rule : Rule) (at : ℕ) (r : Breach) → ◌≡◌ {A = Verdict} (refused rule at) (Err r) → at ≡ r.offset
offset_is rule at r h =
    let same : record { rule = rule; offset = at } ≡ r = cc in ap (λ (b : Breach). b.offset) same

-- the rule of a refusal
rule_is : (broken rule : Rule) (at : ℕ) → ◌≡◌ {A = Verdict} (refused broken at) (refused rule at) → broken ≡ rule
rule_is broken rule at h =
    let same : ◌≡◌ {A = Breach} (record { rule = broken; offset = at }) (record { rule = rule; offset = at }) = cc in
    ap (λ (b : Breach). b.rule) same

module _ (m : Contents) where
  end_is_beyond : (at : ℕ) (before : Option State) (r : Breach) → at_the_end at before ≡ Err r → at ≤ r.offset
  end_is_beyond at None r h = let no : ◌≡◌ {A = Verdict} (Ok tt) (Err r) = h in absurd (cc)
  end_is_beyond at (Some s) r h = let e = offset_is rules.Flow at r h in omega arith

  module _ (go : ℕ → Option State → Verdict)
      (goes : (to : ℕ) (after : Option State) (r : Breach) → go to after ≡ Err r → to ≤ r.offset) (at : ℕ) where
    starts_are_beyond : (len : ℕ) (after : Option State) (start : Option ℕ) (r : Breach)
        → start_among m (at + 1) (len - 1) ≡ start → past_starts go (at + len) after start ≡ Err r → at ≤ r.offset
    starts_are_beyond len after None r is h = let low = goes (at + len) after r h in omega arith
    starts_are_beyond len after (Some inside) r is h =
        let low = start_is_beyond m (at + 1) (len - 1) inside is in
        let e = offset_is rules.InstructionStart inside r h in omega arith

    rule_is_beyond : (len : ℕ) (judged : Result (Option State) Rule) (r : Breach)
        → past_rule m go at len judged ≡ Err r → at ≤ r.offset
    rule_is_beyond len (Err broken) r h = let e = offset_is broken at r h in omega arith
    rule_is_beyond len (Ok after) r h = starts_are_beyond len after (start_among m (at + 1) (len - 1)) r refl h

    spelling_is_beyond : (before : Option State) (fetch : Result Instr DecodeFault) (r : Breach)
        → past_spelling m go at before fetch ≡ Err r → at ≤ r.offset
    spelling_is_beyond before (Err e) r h = let same = offset_is rules.Spelling at r h in omega arith
    spelling_is_beyond before (Ok i) r h = rule_is_beyond i.len (judged_at m at before i) r h

  judge_is_beyond : (n at : ℕ) (before : Option State) (r : Breach) → judge n m at before ≡ Err r → at ≤ r.offset
  unfolding judge
  judge_is_beyond zero at before r h = end_is_beyond at before r h
  judge_is_beyond (suc n) at before r h = elim (leb_tells (length m.code) at) [
    | inl t ↦ end_is_beyond at before r
        (sym (ap (λ (b : Bool). cond b (at_the_end at before)
        (past_spelling m (λ to after. judge n m to after) at before (fetched m.code at))) t.0) ∙ h)
    | inr t ↦ spelling_is_beyond (λ to after. judge n m to after) (λ to after s k. judge_is_beyond n to after s k) at
        before (fetched m.code at) r
        (sym (ap (λ (b : Bool). cond b (at_the_end at before)
        (past_spelling m (λ to after. judge n m to after) at before (fetched m.code at))) t.0) ∙ h)
  ]

  -- ---- the instruction at which the verdict names a rule

  module _ (at : ℕ) (before : Option State) (i : Instr) (rule : Rule) (some : 1 ≤ i.len) where
    judged_breaks : (n : ℕ) (judged : Result (Option State) Rule)
        → past_rule m (λ to after. judge n m to after) at i.len judged ≡ refused rule at → judged ≡ Err rule
    judged_breaks n (Err broken) h = ap Err (rule_is broken rule at h)
    judged_breaks n (Ok after) h = by_start (start_among m (at + 1) (i.len - 1)) refl h
      where
        by_start : (start : Option ℕ) → start_among m (at + 1) (i.len - 1) ≡ start
            → past_starts (λ to after. judge n m to after) (at + i.len) after start ≡ refused rule at
            → ◌≡◌ {A = Result (Option State) Rule} (Ok after) (Err rule)
        by_start None is told =
            let low = judge_is_beyond n (at + i.len) after (record { rule = rule; offset = at }) told in
            absurd (omega arith)
        by_start (Some inside) is told =
            let low = start_is_beyond m (at + 1) (i.len - 1) inside is in
            let e = offset_is rules.InstructionStart inside (record { rule = rule; offset = at }) told in
            absurd (omega arith)

    by_fuel : (fuel : ℕ) → at < length m.code → fetched m.code at ≡ Ok i → length m.code ≤ at + fuel
        → judge fuel m at before ≡ refused rule at → judged_at m at before i ≡ Err rule
    unfolding judge
    by_fuel zero low spelled enough h = absurd (omega arith)
    by_fuel (suc n) low spelled enough h =
        let inside : leb (length m.code) at ≡ false =
        elim (leb_tells (length m.code) at) [ inl t ↦ absurd (omega (arith, t.1)) | inr t ↦ t.0 ] in
        judged_breaks n (judged_at m at before i)
        (sym (ap (past_spelling m (λ to after. judge n m to after) at before) spelled)
        ∙ sym (ap (λ (b : Bool). cond b (at_the_end at before) (past_spelling m (λ to after. judge n m to after) at
        before (fetched m.code at))) inside) ∙ h)

    -- on the way to the verdict
    pub breaks_there : at < length m.code → OnTheWay m at before → fetched m.code at ≡ Ok i
        → verdict m ≡ refused rule at → judged_at m at before i ≡ Err rule
    breaks_there low w spelled told = by_fuel w.fuel low spelled w.enough (w.same ∙ told)

-- ---- what a walk does at an instruction

-- how many bytes of the instruction come after its first
behind_first : (at len : ℕ) → 1 ≤ len → at + len - (at + 1) ≡ len - 1
behind_first at len some = omega arith

-- the starts that were looked for are those within the instruction
looked_in : (w : Walk) (a : Arrival) (found : Option ℕ) → 1 ≤ a.instr.len
    → found ≡ start_among (walked w) (a.at + 1) (a.at + a.instr.len - (a.at + 1)) → start_in w a ≡ found
looked_in w a found some is =
    ap (start_among (walked w) (a.at + 1)) (sym (behind_first a.at a.instr.len some)) ∙ sym is

-- it breaks a rule
pub breaks_by_rule : (w : Walk) (a : Arrival) (told : Result Bool Rule) (after : State) (rule : Rule) (breach : Breach)
    → Judges told after (judged_of w a) → told ≡ Err rule → breach ≡ record { rule = rule; offset = a.at }
    → Breaks w a breach
breaks_by_rule w a told after rule breach judges is made =
    subst (Breaks w a) (sym made)
    (by_rule (subst (λ (r : Result Bool Rule). Judges r after (judged_of w a)) is judges))

-- a start lies within it
pub breaks_by_start : (w : Walk) (a : Arrival) (told : Result Bool Rule) (after : State) (falls : Bool)
    (found : Option ℕ) (inside : ℕ) (breach : Breach) → 1 ≤ a.instr.len → Judges told after (judged_of w a)
    → told ≡ Ok falls → found ≡ start_among (walked w) (a.at + 1) (a.at + a.instr.len - (a.at + 1))
    → found ≡ Some inside → breach ≡ record { rule = rules.InstructionStart; offset = inside } → Breaks w a breach
breaks_by_start w a told after falls found inside breach some judges is looked one made =
    subst (Breaks w a) (sym made)
    (by_start (subst (λ (r : Result Bool Rule). Judges r after (judged_of w a)) is judges)
    (looked_in w a found some looked ∙ one))

-- the walk goes on after it, with this state
pub has_gone_on : (old : Walk) (a : Arrival) (s : InMemory) (told : Result Bool Rule) (falls : Bool) (found : Option ℕ)
    → HasArrived a old → BelongsTo (walked old) s → Judges told (state_of s) (judged_of old a) → told ≡ Ok falls
    → found ≡ start_among (walked old) (a.at + 1) (a.at + a.instr.len - (a.at + 1)) → found ≡ None
    → HasGoneOn old a (record old { at = a.at + a.instr.len; state = s; is_reached = falls })
has_gone_on old a s told falls found has belongs judges is looked none =
    let some = has.some in
    let nothing : start_in old a ≡ None = looked_in old a found some looked ∙ none in
    let end : a.at + 1 + (a.instr.len - 1) ≡ a.at + a.instr.len = omega arith in
    record {
      is = record {
        belongs = belongs;
        left = subst (λ (o : ℕ). AreLeft (walked old) o old.rows) end
            (left-further (walked old) (a.at + 1) (a.instr.len - 1) old.rows has.left nothing);
      };
      same = refl;
      at = refl;
      some = some;
      inside = has.ends;
      judged = subst (λ (r : Result Bool Rule). Judges r (state_of s) (judged_of old a)) is judges;
      none = nothing;
    }

-- ---- what a walk shows of the verdict

-- what is judged, where the module, the offset, the cost and the state are these
pub judged_as : (m other : Contents) (at place : ℕ) (before reached : Option State) (i : Instr)
    (entered : Result ℕ Rule) → other ≡ m → place ≡ at → entered ≡ entering m at before
    → reached ≡ state_at m at before → judged_once other place entered i reached ≡ judged_at m at before i
judged_as m other at place before reached i entered same there cost state =
    ap (λ (c : Contents). judged_once c place entered i reached) same
    ∙ ap (λ (o : ℕ). judged_once m o entered i reached) there
    ∙ judged_there m at before reached i entered cost state

-- A walk has entered the offset, into which this state fell.
pub record HasEntered (m : Contents) (at : ℕ) (before : Option State) (a : Arrival) (w : Walk) : Type 0 where
  pub same : walked w ≡ m
  pub there : a.at ≡ at
  pub inside : at < length m.code
  pub spelled : fetched m.code at ≡ Ok a.instr
  pub some : 1 ≤ a.instr.len
  pub reached : before_of w ≡ state_at m at before
  pub judged : judged_of w a ≡ judged_at m at before a.instr
  pub start : start_in w a ≡ start_among m (at + 1) (a.instr.len - 1)

pub has_entered : (m : Contents) (old arrived entered : Walk) (a : Arrival) → walked old ≡ m → Arrives old a arrived
    → HasArrived a entered → walked entered ≡ walked arrived
    → before_of entered ≡ state_at (walked arrived) a.at (before_of arrived)
    → HasEntered m old.at (before_of old) a entered
has_entered m old arrived entered a is arr has same state =
    let whole : walked entered ≡ m = same ∙ arr.same ∙ is in
    let there = arr.at in
    let reached : before_of entered ≡ state_at m old.at (before_of old) =
    state ∙ ap (λ (c : Contents). state_at c a.at (before_of arrived)) (arr.same ∙ is)
    ∙ ap (λ (o : ℕ). state_at m o (before_of arrived)) there
    ∙ ap (λ (b : Option State). state_at m old.at b) arr.state in
    let cost : a.entered ≡ entering m old.at (before_of old) =
    arr.entered ∙ ap (λ (c : Contents). entering c old.at (before_of old)) is in
    record {
      same = whole;
      there = there;
      inside = subst (λ (o : ℕ). o < length m.code) there
          (subst (λ (c : Contents). a.at < length c.code) whole has.inside);
      spelled = ap (λ (o : ℕ). fetched m.code o) (sym there)
          ∙ ap (λ (c : Contents). fetched c.code a.at) (sym whole) ∙ has.spelled;
      some = has.some;
      reached = reached;
      judged = judged_as m (walked entered) old.at a.at (before_of old) (before_of entered) a.instr a.entered whole
          there cost reached;
      start = ap (λ (c : Contents). start_among c (a.at + 1) (a.instr.len - 1)) whole
          ∙ ap (λ (o : ℕ). start_among m (o + 1) (a.instr.len - 1)) there;
    }

-- what came of the instruction, in the form in which it was matched
pub goes_as : (old : Walk) (a : Arrival) (new : Walk) (told : Result ⊤ Breach) (unit : ⊤) → told ≡ Ok unit
    → GoesOn old a new told → HasGoneOn old a new
goes_as old a new told unit is goes = subst (λ (r : Result ⊤ Breach). GoesOn old a new r) is goes

pub breaks_as : (old : Walk) (a : Arrival) (new : Walk) (told : Result ⊤ Breach) (breach : Breach)
    → told ≡ Err breach → GoesOn old a new told → Breaks old a breach
breaks_as old a new told breach is goes = subst (λ (r : Result ⊤ Breach). GoesOn old a new r) is goes

-- the way to the verdict begins
pub way_begins : (m : Contents) (w : Walk) → IsBegun m w → OnTheWay m w.at (before_of w)
way_begins m w b =
    subst (λ (o : ℕ). OnTheWay m o (before_of w)) (sym b.at)
    (subst (λ (s : Option State). OnTheWay m 0 s) (sym b.state) (start m))

-- it goes on
pub way_goes_on : (m : Contents) (at : ℕ) (before : Option State) (old : Walk) (a : Arrival)
    (new : Walk) → OnTheWay m at before → HasEntered m at before a old → HasGoneOn old a new
    → OnTheWay m new.at (before_of new)
way_goes_on m at before old a new w e gone =
    subst (λ (o : ℕ). OnTheWay m o (before_of new)) (ap (λ (o : ℕ). o + a.instr.len) (sym e.there) ∙ sym gone.at)
    (goes-on m at before (before_of new) a.instr e.some e.inside w e.spelled (sym e.judged ∙ gone.judged)
    (sym e.start ∙ gone.none))

-- it ends at a rule that is broken
pub way_breaks : (m : Contents) (at : ℕ) (before : Option State) (old : Walk) (a : Arrival) (breach : Breach)
    → OnTheWay m at before → HasEntered m at before a old → Breaks old a breach → verdict m ≡ Err breach
way_breaks m at before old a breach w e (by_rule {rule = rule} judged) =
    broken-is m at rule before a.instr e.inside w e.spelled (sym e.judged ∙ judged)
    ∙ ap (λ (o : ℕ). refused rule o) (sym e.there)
way_breaks m at before old a breach w e (by_start {inside = inside} {after = after} judged start) =
    hidden-is m at inside before after a.instr e.inside w e.spelled (sym e.judged ∙ judged) (sym e.start ∙ start)

-- it ends where no instruction is spelled
pub way_misspelled : (m : Contents) (old new : Walk) (at : ℕ) (breach : Breach) → walked old ≡ m
    → OnTheWay m old.at (before_of old) → IsUnspelled old × (new ≡ old) → at ≡ new.at
    → breach ≡ record { rule = rules.Spelling; offset = at } → verdict m ≡ Err breach
way_misspelled m old new at breach is w u there told =
    let place : old.at ≡ at = ap (λ (v : Walk). v.at) (sym u.1) ∙ sym there in
    misspelled-is m old.at (before_of old) u.0.fault (subst (λ (c : Contents). old.at < length c.code) is u.0.inside) w
    (ap (λ (c : Contents). fetched c.code old.at) (sym is) ∙ u.0.unspelled)
    ∙ ap (λ (o : ℕ). refused rules.Spelling o) place ∙ ap (λ (b : Breach). Err b) (sym told)

-- it ends at the end of the code
pub way_ended : (m : Contents) (old new : Walk) → walked old ≡ m → OnTheWay m old.at (before_of old)
    → (length (walked old).code ≤ old.at) × (new ≡ old) → verdict m ≡ at_the_end new.at (before_of new)
way_ended m old new is w e =
    ended-is m old.at (before_of old) (subst (λ (c : Contents). length c.code ≤ old.at) is e.0) w
    ∙ ap (λ (v : Walk). at_the_end v.at (before_of v)) (sym e.1)
