-- The rules of calls and returns fit their steps.
use Rattle.std.proofs.Common.{◌≡◌, ℕ, zero, suc, ◌+◌, ◌-◌, ◌*◌, ◌%◌, ◌^◌, ◌≤◌, ◌<◌, ℤ, pos, negsuc, ◌+ℤ◌, ◌-ℤ◌, ◌≤ℤ◌}
use Rattle.std.proofs.Common.{FitsSigned, Bool, true, false, cond, if◌then◌else◌, ◌&&◌, inl, inr, List, [], ◌∷◌}
use Rattle.std.proofs.Common.{length, Option, Some, None, refl, sym, ap, ◌∙◌, subst, arith, ltb, ◌||◌}
use Rattle.std.specs.Int.{w32, int_wrap}
use Rattle.std.proofs.lemmas.Option.{slice_get_within}
use Rattle.std.specs.Prelude.{nat_lt, nat_abs, slice_get}
use Rattle.std.specs.List.{list_all}
use Rattle.std.proofs.lemmas.Bool.Decides.{leb_tells}
use Rattle.std.proofs.lemmas.Int.{ints, SFits-int_wrap}
use Rattle.states.proofs.Procedures.{procedure-at}
use Rattle.std.proofs.lemmas.Bool.{le-leb, and_parts, and_from}
use Rattle.small_laws.proofs.Comparisons.{lt-int_lt, le-int_le, pos_from}
use Rattle.module_format.specs.Places.{branches_of}
use Rattle.states.specs.declared.known.Mode.TheVariants as states_modes
use Rattle.module_format.specs.Rows.{Fact}
use Rattle.module_format.specs.declared.fact.Fact.TheVariants.{Unknown, Number, Pointer, CodeAddress, Loop}
use Rattle.module_format.specs.declared.fact.Fact.TheVariants.{ReturnAddress}
use Rattle.module_format.specs.declared.rows.Parameter.{Parameter}
use Rattle.module_format.specs.Contents.{Contents, Procedure, Par, Branch}
use Rattle.module_format.specs.Contexts.{first_branch, context_at}
use Rattle.module_format.specs.Regions.{is_frame}
use Rattle.certificate.specs.Rights as rights
use Rattle.certificate.specs.Starts.{Entered, procedure_at}
use Rattle.machine_state.specs.declared.op.Op.TheVariants as operations
use Rattle.machine_state.specs.declared.instruction.Instruction.TheVariants as instructions
use Rattle.machine_state.specs.Memory.{Memory, place_of, local_address, data_start, word_at, with_word}
use Rattle.machine_state.specs.Site.{Outcome, Local, lands}
use Rattle.machine_state.specs.LocalStep as step
use Rattle.machine_state.specs.LocalStep.{target}
use Rattle.machine_state.proofs.Reading.{word_at-with_word}
use Rattle.machine_state.proofs.Frame.{write_is_own, changes_more}
use Rattle.states.specs.declared.rule.Rule.TheVariants as rules
use Rattle.states.specs.declared.known.WordFact.{WordFact}
use Rattle.states.specs.declared.known.WordFact.TheVariants.{Alone, Index, Count}
use Rattle.states.specs.State.{State, Facts, is_same_number, is_parted, by_itself, with_fact, changed, written}
use Rattle.states.specs.State.{procedure_state, procedure_facts, parameter_facts, parameter_fact}
use Rattle.rulings.specs.Regions.{scope_of, HoldsNamed}
use Rattle.rulings.specs.Rulings as ruling
use Rattle.rulings.specs.Rulings.{Ruling, calls, returns, breaks}
use Rattle.call_rules.specs.CallRules as rule
use Rattle.call_rules.specs.declared.lent.Lent.{Lent}
use Rattle.call_rules.specs.CallRules.{Calling, learns_word, passing, callee_word, frame_is_own, frame_size, with_lent}
use Rattle.call_rules.specs.CallRules.{with_all_lent, lent, ends_are_given, callee_span, behind_call, spends}
use Rattle.call_rules.specs.CallRules.{calls_procedure, call_rule, return_rule, may_return}
use Rattle.rulings.specs.Meaning.{Layout, Activation, Means, says_nothing, is_return_address, MeansWord, is_fact}
use Rattle.rulings.specs.Meaning.{word_of, code_address, place_in, frame_word, IsWellFormed, SameMode, both_plain}
use Rattle.rulings.specs.Meaning.{dues, dues_from, loop_due, owed}
use Rattle.rulings.specs.Fitting.{After, Situation, Changes, rule_site, step_site, it_calls, it_returns, it_breaks}
use Rattle.rulings.specs.Fitting.{Waits}
use Rattle.rulings.proofs.Within.{Within, ArePlain}
use Rattle.rulings.proofs.Words.{word_test, frame_word_is, stored_means, local_place, same_word_by}
use Rattle.rulings.proofs.Dues.{changed_dues, written_owed}
use Rattle.rulings.proofs.Regions.{keeps_more, write_keeps}
use Rattle.rulings.proofs.Combining.{FitsIf, on_rule_test, on_step_test, writes_fits, reads_fits, write_step}
use Rattle.rulings.proofs.Combining.{after_write, in_plain_rule, beside_plain_rule, in_plain_step, same_frame}
use Rattle.rulings.proofs.Combining.{unknown_means, enough, below_not, written_readable, wants_fits}
use Rattle.rulings.proofs.Lending.{lift_named}
use Rattle.call_rules.proofs.OneName.{EndsPass}
use Rattle.call_rules.proofs.Resuming.{lent_span, resumes_words}
use Rattle.call_rules.proofs.Passing as passing_of
use Rattle.call_rules.proofs.Touching.{passing_rest}
use Rattle.call_rules.proofs.CallTests.{HasPassed, found_row}
use Rattle.rulings.proofs.Offsets.{address_of_word, all_words_at}

-- ---- what is passed

-- a fact that a word gets is its own, and stays where other words get one
fact_here : (j k : ℤ) (fact : Fact) (facts : Facts) → k ≡ j → with_fact j fact facts k ≡ Alone fact
fact_here j k fact facts e = elim (word_test k j) [
  | inl p ↦ ap (λ (b : Bool). cond b (Alone fact)
      (cond (is_parted (λ i. is_same_number i j) k (facts k)) (Alone (by_itself (facts k))) (facts k))) p.0
  | inr p ↦ absurd (p.1 e)
]

fact_stays : (j k : ℤ) (fact other : Fact) (facts : Facts) → (k ≡ j → ⊥) → facts k ≡ Alone other
    → with_fact j fact facts k ≡ Alone other
fact_stays j k fact other facts differ e = elim (word_test k j) [
  | inl p ↦ absurd (differ p.1)
  | inr p ↦ ap (λ (b : Bool). cond b (Alone fact)
      (cond (is_parted (λ i. is_same_number i j) k (facts k)) (Alone (by_itself (facts k))) (facts k))) p.0
      ∙ ap (λ (f : WordFact). cond (is_parted (λ i. is_same_number i j) k f) (Alone (by_itself f)) f) e
]

-- the state in which all four words are written
abbrev all_passed : State → State
all_passed s = written (s.depth +ℤ negsuc 3) Unknown (written (s.depth +ℤ negsuc 2) s.stack.a.fact
    (written (s.depth +ℤ negsuc 1) s.stack.b.fact (written (s.depth +ℤ negsuc 0) s.stack.c.fact s)))

has_passed : (s : State) → HasPassed (all_passed s)
unfolding written
has_passed s =
    let d = s.depth in
    let one : Facts = with_fact (d +ℤ negsuc 0) s.stack.c.fact s.frame in
    let two : Facts = with_fact (d +ℤ negsuc 1) s.stack.b.fact one in
    let three : Facts = with_fact (d +ℤ negsuc 2) s.stack.a.fact two in
    record {
      a = fact_stays (d +ℤ negsuc 3) ((d +ℤ negsuc 3) +ℤ pos 1) Unknown s.stack.a.fact three
          (λ e. omega (arith, ints, e))
          (fact_here (d +ℤ negsuc 2) ((d +ℤ negsuc 3) +ℤ pos 1) s.stack.a.fact two (omega (arith, ints)));
      b = fact_stays (d +ℤ negsuc 3) ((d +ℤ negsuc 3) +ℤ pos 2) Unknown s.stack.b.fact three
          (λ e. omega (arith, ints, e))
          (fact_stays (d +ℤ negsuc 2) ((d +ℤ negsuc 3) +ℤ pos 2) s.stack.a.fact s.stack.b.fact two
          (λ e. omega (arith, ints, e))
          (fact_here (d +ℤ negsuc 1) ((d +ℤ negsuc 3) +ℤ pos 2) s.stack.b.fact one (omega (arith, ints))));
      c = fact_stays (d +ℤ negsuc 3) ((d +ℤ negsuc 3) +ℤ pos 3) Unknown s.stack.c.fact three
          (λ e. omega (arith, ints, e))
          (fact_stays (d +ℤ negsuc 2) ((d +ℤ negsuc 3) +ℤ pos 3) s.stack.a.fact s.stack.c.fact two
          (λ e. omega (arith, ints, e))
          (fact_stays (d +ℤ negsuc 1) ((d +ℤ negsuc 3) +ℤ pos 3) s.stack.b.fact s.stack.c.fact one
          (λ e. omega (arith, ints, e))
          (fact_here (d +ℤ negsuc 0) ((d +ℤ negsuc 3) +ℤ pos 3) s.stack.c.fact s.frame (omega (arith, ints)))));
    }

-- where a word may be written, it is passed
passes_is : (m : Contents) (e : ℤ) (fact : Fact) (s t : State) → s ≡ t
    → rights.may_write_word m t.context (t.depth +ℤ e) ≡ true
    → learns_word m e fact s ≡ written (t.depth +ℤ e) fact t
unfolding learns_word
passes_is m e fact s t same may =
    ap (λ (u : State). cond (rights.may_write_word m u.context (u.depth +ℤ e)) (written (u.depth +ℤ e) fact u) u) same
    ∙ ap (λ (b : Bool). cond b (written (t.depth +ℤ e) fact t) t) may

passing_is : (m : Contents) (s : State) → rights.may_write_word m s.context (s.depth +ℤ negsuc 0) ≡ true
    → rights.may_write_word m s.context (s.depth +ℤ negsuc 1) ≡ true
    → rights.may_write_word m s.context (s.depth +ℤ negsuc 2) ≡ true
    → rights.may_write_word m s.context (s.depth +ℤ negsuc 3) ≡ true → passing m s ≡ all_passed s
unfolding written
passing_is m s t0 t1 t2 t3 =
    passes_is m (negsuc 3) Unknown _ _ (passes_is m (negsuc 2) s.stack.a.fact _ _
    (passes_is m (negsuc 1) s.stack.b.fact _ _
    (passes_is m (negsuc 0) s.stack.c.fact s s refl t0) t1) t2) t3

-- the callee's frame, where it lies in own words, has the four words below the workspace
own_below : (m : Contents) (s : State) (p : Procedure) (low : p.lo ≤ℤ pos 0) (high : pos 4 ≤ℤ p.hi) (e : ℤ)
    → frame_is_own (record { contents = m; state = passing m s; callee = p }) ≡ true → negsuc 3 ≤ℤ e → e ≤ℤ negsuc 0
    → rights.may_write_word m s.context (s.depth +ℤ e) ≡ true
unfolding frame_is_own
own_below m s p low high e own above below =
    let place = passing_rest m s in
    let n = pos_from (p.hi -ℤ p.lo) (omega (arith, ints, low, high)) in
    let i = pos_from (e -ℤ negsuc 3 -ℤ p.lo) (omega (arith, ints, low, above)) in
    let size : frame_size p ≡ n.0 = ap nat_abs n.1 in
    let at = all_words_at (rights.may_write_word m (passing m s).context) (callee_word (passing m s) p.lo)
    (frame_size p) i.0 own
    (omega (arith, ints, i.1, n.1, size, high, below)) in
    let d = place.depth in
    subst (λ (n : ℕ). rights.may_write_word m n (s.depth +ℤ e) ≡ true) place.context
    (subst (λ (z : ℤ). rights.may_write_word m (passing m s).context z ≡ true) (omega (arith, ints, i.1, d)) at)

-- what is known of a register is known of the word that gets its value
passed_means : {m : Contents} {layout : Layout} (f : Fact) (v : Option ℤ) (memory : Memory) (place : ℕ)
    → place + 4 ≤ length memory → Means m layout f v → Means m layout f (word_at (with_word memory place v) place)
passed_means f (Some v) memory place inside means = stored_means _ _ f v memory place inside means
passed_means Unknown None memory place inside means = says_nothing
passed_means (Number lo hi) None memory place inside means = elim means [ ]
passed_means (Pointer region lo hi step) None memory place inside means = elim means [ ]
passed_means (CodeAddress offset) None memory place inside means = elim means [ ]
passed_means (Loop base count weight) None memory place inside means = elim means [ ]
passed_means ReturnAddress None memory place inside means = elim means [ ]

-- ---- what is owed

-- words that are in no loop owe nothing
alone_from : (facts : Facts) (turns : ℤ → ℕ) (word : ℤ) (more : ℕ) → ((k : ℤ) → (f : Fact) × (facts k ≡ Alone f))
    → dues_from facts turns word more ≡ 0
alone_from facts turns word zero alone = refl
alone_from facts turns word (suc more) alone =
    let here : loop_due (facts word) (turns word) ≡ 0 = ap (λ (f : WordFact). loop_due f (turns word)) (alone word).1 in
    let rest = alone_from facts turns (word +ℤ pos 1) more alone in
    omega (arith, here, rest)

parameters_alone : (number : ℕ) (ps : List Parameter) (k : ℤ) → (f : Fact) × (parameter_facts number ps k ≡ Alone f)
parameters_alone number [] k = (Unknown, refl)
parameters_alone number (q ∷ ps) k = on_test (is_same_number k (pos q.word)) (parameters_alone (number + 1) ps k)
  where
    on_test : (b : Bool) → (f : Fact) × (parameter_facts (number + 1) ps k ≡ Alone f)
        → (f : Fact) × (cond b (Alone (parameter_fact number q.kind)) (parameter_facts (number + 1) ps k) ≡ Alone f)
    on_test true rest = (parameter_fact number q.kind, refl)
    on_test false rest = rest

procedure_alone : (p : Procedure) (k : ℤ) → (f : Fact) × (procedure_facts p k ≡ Alone f)
procedure_alone p k = on_test (is_same_number k (pos 0))
  where
    on_test : (b : Bool) → (f : Fact) × (cond b (Alone ReturnAddress) (parameter_facts 0 p.parameters k) ≡ Alone f)
    on_test true = (ReturnAddress, refl)
    on_test false = parameters_alone 0 p.parameters k

procedure_dues : (p : Procedure) (turns : ℤ → ℕ) → dues (procedure_facts p) turns ≡ 0
unfolding dues
procedure_dues p turns = alone_from (procedure_facts p) turns _ _ (procedure_alone p)

lent_dues : (c : Calling) (ps : List Parameter) (facts : Facts) (turns : ℤ → ℕ)
    → dues (with_all_lent c ps facts) turns ≤ dues facts turns
lent_dues c [] facts turns = omega arith
lent_dues c (p ∷ ps) facts turns =
    let rest = lent_dues c ps (with_lent (lent c p) facts) turns in
    let here = one (lent c p) in
    omega (arith, rest, here)
  where
    one : (o : Option Lent) → dues (with_lent o facts) turns ≤ dues facts turns
    one None = omega arith
    one (Some l) = on_test (l.is_written && is_frame l.region)
      where
        on_test : (b : Bool) → dues (cond b (changed (lent_span l) facts) facts) turns ≤ dues facts turns
        on_test true = changed_dues (lent_span l) facts turns
        on_test false = omega arith

-- ---- the address of the return

return_address : (m : Contents) (back : ℕ)
    → step.word_of ((data_start + 4 * m.data_words + back) % 2 ^ 32) ≡ word_of (pos (code_address m back))
unfolding int_wrap
return_address m back = refl

-- the workspace four words below another
four_below : (workspace place : ℕ) (origin depth : ℤ) → pos workspace ≡ pos data_start +ℤ place_in origin depth
    → pos place ≡ place_in origin (depth +ℤ negsuc 3) → place ≤ 1048576
    → pos (local_address workspace (negsuc 3)) ≡ pos data_start +ℤ place_in
    (place_in origin (depth +ℤ negsuc 3)) (pos 0)
unfolding local_address
four_below workspace place origin depth at is low = omega (arith, ints)

-- the workspace four words above another
four_above : (workspace place : ℕ) (origin : ℤ) → workspace ≡ data_start + place → pos place ≡ place_in origin (pos 0)
    → place ≤ 1048576 → pos (local_address workspace (pos 4)) ≡ pos data_start +ℤ place_in origin (pos 4)
unfolding local_address
four_above workspace place origin at is low = omega (arith, ints)

-- a row that is there
procedure_row : (ps : List Procedure) (i : ℕ) → i < length ps → (p : Procedure) × (slice_get ps i ≡ Some p)
procedure_row [] i low = absurd (omega arith)
procedure_row (p ∷ ps) zero low = (p, refl)
procedure_row (p ∷ ps) (suc i) low = procedure_row ps i (omega arith)

module _ (x : Situation) where
  spends_fits : (price : ℕ) (s : State) (r : State → Ruling) (o : Outcome)
      → (ltb s.number price ≡ false → FitsIf x (r (record s { number = s.number - price })) o)
      → FitsIf x (spends price s r) o
  unfolding spends
  spends_fits price s r o go = on_rule_test x (ltb s.number price) _ _ o (λ t next. it_breaks) go

  lands_fits : (to : ℕ) (r : Ruling) (l : Local) → to < length x.m.code → FitsIf x r (lands to l)
      → FitsIf x r (step.lands_at (step_site x) to l)
  unfolding step.lands_at
  lands_fits to r l low go = on_step_test x (ltb to (length x.m.code)) r _ _ (λ t. go)
      (λ t. absurd (below_not _ _ low t))

  module _ (wf : IsWellFormed x.m) (s : State) (l : Local) (a : Within ArePlain x.m x.h x.mode x.act s l)
      (same : s.context ≡ x.context) (changes : Changes x l.memory) (n : owed s x.act ≤ x.owed) where
    -- ---- a procedure that is called

    module _ (to : ℕ) (f : Entered) (some : 1 ≤ f.context)
        (is : slice_get x.m.procedures (f.context - 1) ≡ Some f.procedure)
        (found : procedure_at x.m to ≡ Some f) (entry : f.procedure.entry ≡ to) where
      abbrev call_in : State → Calling
      call_in z = record { contents = x.m; state = z; callee = f.procedure }

      abbrev price : ℕ
      price = x.len + f.procedure.number

      abbrev behind_in : State → State
      behind_in z = record (behind_call (call_in z)) { number = (behind_call (call_in z)).number - price }

      module _ (own : frame_is_own (call_in (all_passed s)) ≡ true)
          (numbers : list_all (rule.numbers_fit (call_in (all_passed s))) f.procedure.parameters ≡ true)
          (pointers : list_all (rule.pointers_fit (call_in (all_passed s))) f.procedure.parameters ≡ true)
          (beside : rule.regions_are_apart (call_in (all_passed s)) ≡ true)
          (held : EndsPass (call_in (all_passed s)))
          (memory : Memory) (a4 : Within ArePlain x.m x.h x.mode x.act (all_passed s) (record l { memory = memory }))
          (c4 : Changes x memory)
          (returned : frame_word memory (place_in x.act.layout.origin (s.depth +ℤ negsuc 3)) (pos 0)
          ≡ Some (word_of (pos (code_address x.m (x.at + x.len)))))
          (paid : ltb s.number price ≡ false) where
        abbrev passed_local : Local
        passed_local = record l { memory = memory }

        abbrev layout : Layout
        layout = passing_of.layout x.m x.h x.mode x.act (all_passed s) passed_local wf a4 f.procedure f.context some is
            (x.at + x.len) own (has_passed s)

        abbrev callee_act : Activation
        callee_act = record { layout = layout; turns = λ k. 0 }

        abbrev workspace : ℕ
        workspace = local_address l.registers.workspace (negsuc 3)

        abbrev in_callee : Local
        in_callee = step.without_registers (step.with_workspace workspace passed_local)

        named : x.at + x.len < length x.m.code → HoldsNamed x.m x.h (scope_of x.m f.context layout) memory
        named inside = passing_of.callee_named x.m x.h x.mode x.act
            (all_passed s) passed_local wf a4 f.procedure f.context some
            is (x.at + x.len) own (has_passed s) numbers pointers beside held inside

        low_frame : (f.procedure.lo ≤ℤ pos 0) × (pos 4 ≤ℤ f.procedure.hi)
        low_frame = let row = (wf.procedures (f.context - 1) f.procedure is).1 in (row.lo_high, row.hi_low)

        in_place : pos workspace ≡ pos data_start +ℤ place_in
            (place_in x.act.layout.origin (s.depth +ℤ negsuc 3)) (pos 0)
        unfolding written
        in_place =
            let t = passing_of.own_word x.m x.h x.mode x.act
            (all_passed s) passed_local wf a4 f.procedure f.context some is
            (x.at + x.len) own (has_passed s) (pos 0) (low_frame.0) (let h = low_frame.1 in omega (arith, ints, h)) in
            let w = a4.frame.own ((s.depth +ℤ negsuc 3) +ℤ pos 0) t in
            let at = w.is in
            four_below l.registers.workspace w.place x.act.layout.origin s.depth a4.frame.start
            (omega (arith, ints, at))
            (let i = w.inside in let b = a4.frame.small in omega arith)

        after_call : x.at + x.len < length x.m.code
            → After x.m x.h x.mode callee_act (procedure_state f.context f.procedure) in_callee
        unfolding written
        after_call inside = record {
          frame = passing_of.callee_frame x.m x.h x.mode x.act
              (all_passed s) passed_local wf a4 f.procedure f.context some is
              (x.at + x.len) own (has_passed s) workspace in_place;
          knows = record {
            registers = record { a = unknown_means; b = unknown_means; c = unknown_means };
            words = λ k t. passing_of.callee_words x.m x.h x.mode x.act
                (all_passed s) passed_local wf a4 f.procedure f.context
                some is (x.at + x.len) own (has_passed s) numbers pointers beside held returned k;
          };
          named = named inside;
          same_mode = subst (λ q. SameMode states_modes.Plain q) (sym a4.same_mode.step) both_plain;
        }

        waits : x.at + x.len < length x.m.code → Waits x.m x.h f.context layout
            (record { act = x.act; state = behind_in (all_passed s); workspace = l.registers.workspace }) memory
        unfolding behind_call written
        waits inside =
            let lends = passing_of.lends x.m x.h x.mode x.act
            (all_passed s) passed_local wf a4 f.procedure f.context some is
            (x.at + x.len) own (has_passed s) numbers pointers beside held in
            record {
              goes_on = record {
                plain = a.same_mode.rule;
                registers = refl;
                workspace = let at = a4.frame.start in omega (arith, ints, at);
              };
              base = s.depth +ℤ negsuc 3;
              lends = lends;
              lengths = refl;
              resumes = λ later keeps. record {
                frame = same_frame (sym keeps.size) a4.frame;
                words = resumes_words x.m x.h x.act (all_passed s) f.procedure f.context layout lends memory later keeps
                    a4.named (keeps.named (named inside))
                    (passing_of.callee_parameters x.m x.h x.mode x.act
                    (all_passed s) passed_local wf a4 f.procedure f.context
                    some is (x.at + x.len) own (has_passed s))
                    (passing_of.linked x.m x.h x.mode x.act
                    (all_passed s) passed_local wf a4 f.procedure f.context some is
                    (x.at + x.len) own (has_passed s) numbers pointers beside held)
                    (passing_of.callee_word_inside x.m x.h x.mode x.act (all_passed s) passed_local wf a4 f.procedure
                    f.context some is (x.at + x.len) own (has_passed s))
                    a4.frame.readable a4.knows.words;
                named = lift_named x.m x.h (scope_of x.m s.context x.act.layout) (scope_of x.m f.context layout)
                    (s.depth +ℤ negsuc 3) lends memory later keeps a4.named (keeps.named (named inside));
              };
            }

        both_owed : owed (procedure_state f.context f.procedure) callee_act + owed
            (behind_in (all_passed s)) x.act + x.len
            ≤ x.owed
        unfolding behind_call written
        both_owed =
            let none = procedure_dues f.procedure (λ k. 0) in
            let lent_due = lent_dues (call_in (all_passed s)) f.procedure.parameters
            (changed (callee_span (call_in (all_passed s))) (all_passed s).frame) x.act.turns in
            let frame_due = changed_dues (callee_span (call_in (all_passed s))) (all_passed s).frame x.act.turns in
            let first = written (s.depth +ℤ negsuc 0) s.stack.c.fact s in
            let second = written (s.depth +ℤ negsuc 1) s.stack.b.fact first in
            let third = written (s.depth +ℤ negsuc 2) s.stack.a.fact second in
            let one = written_owed (s.depth +ℤ negsuc 0) s.stack.c.fact s x.act in
            let two = written_owed (s.depth +ℤ negsuc 1) s.stack.b.fact first x.act in
            let three = written_owed (s.depth +ℤ negsuc 2) s.stack.a.fact second x.act in
            let four = written_owed (s.depth +ℤ negsuc 3) Unknown third x.act in
            let pay = enough s.number price (dues s.frame x.act.turns) x.owed paid n in
            omega (arith, none, lent_due, frame_due, one, two, three, four, pay)

        called : FitsIf x (calls to (behind_in (all_passed s))) (lands to in_callee)
        unfolding behind_call written
        called next =
            let inside : x.at + x.len < length x.m.code = next _ refl in
            let row = (wf.procedures (f.context - 1) f.procedure is).1 in
            let low : to < length x.m.code = subst (λ (k : ℕ). k < length x.m.code) entry row.in_code in
            it_calls callee_act l.registers.workspace found low (after_call inside) refl
            (waits inside) same c4 both_owed some
            (let few = slice_get_within x.m.procedures (f.context - 1) f.procedure is in omega arith)

    -- ---- the step of a call

    abbrev return_word : ℤ
    return_word = step.word_of (step.code_address (step_site x) (x.at + x.len))

    abbrev passing_step : ℕ → Outcome
    passing_step to =
        let word = local_address l.registers.workspace in
        step.writes (step_site x) (word (negsuc 0)) l.registers.stack.c l (λ l1.
        step.writes (step_site x) (word (negsuc 1)) l.registers.stack.b l1 (λ l2.
        step.writes (step_site x) (word (negsuc 2)) l.registers.stack.a l2 (λ l3.
        step.writes (step_site x) (word (negsuc 3)) (Some return_word) l3 (λ l4.
        step.lands_at (step_site x) to (step.without_registers (step.with_workspace (word (negsuc 3)) l4))))))

    passing_fits : (to : ℕ) (r : Ruling) → rights.may_write_word x.m s.context (s.depth +ℤ negsuc 0) ≡ true
        → rights.may_write_word x.m s.context (s.depth +ℤ negsuc 1) ≡ true
        → rights.may_write_word x.m s.context (s.depth +ℤ negsuc 2) ≡ true
        → rights.may_write_word x.m s.context (s.depth +ℤ negsuc 3) ≡ true
        → ((memory : Memory) → Within ArePlain x.m x.h x.mode x.act (all_passed s) (record l { memory = memory })
        → Changes x memory
        → frame_word memory (place_in x.act.layout.origin (s.depth +ℤ negsuc 3)) (pos 0)
        ≡ Some (word_of (pos (code_address x.m (x.at + x.len))))
        → FitsIf x r (step.lands_at (step_site x) to (step.without_registers
        (step.with_workspace (local_address l.registers.workspace (negsuc 3)) (record l { memory = memory })))))
        → FitsIf x r (passing_step to)
    unfolding written
    passing_fits to r t0 t1 t2 t3 go =
        let first = written (s.depth +ℤ negsuc 0) s.stack.c.fact s in
        let second = written (s.depth +ℤ negsuc 1) s.stack.b.fact first in
        let third = written (s.depth +ℤ negsuc 2) s.stack.a.fact second in
        write_step x s l (negsuc 0) s.stack.c.fact l.registers.stack.c r _ a same changes (omega (arith, ints)) t0
        (λ place inside. passed_means s.stack.c.fact l.registers.stack.c l.memory place inside a.knows.registers.c.fact)
        (λ m1 a1 c1.
        write_step x first (record l { memory = m1 }) (negsuc 1) s.stack.b.fact l.registers.stack.b r _ a1 same c1
        (omega (arith, ints)) t1
        (λ place inside. passed_means s.stack.b.fact l.registers.stack.b m1 place inside a1.knows.registers.b.fact)
        (λ m2 a2 c2.
        write_step x second (record l { memory = m2 }) (negsuc 2) s.stack.a.fact l.registers.stack.a r _ a2 same c2
        (omega (arith, ints)) t2
        (λ place inside. passed_means s.stack.a.fact l.registers.stack.a m2 place inside a2.knows.registers.a.fact)
        (λ m3 a3 c3.
        let w = a3.frame.own (s.depth +ℤ negsuc 3) t3 in
        let word_is = return_address x.m (x.at + x.len) in
        let fits : FitsSigned w32 return_word = subst (λ (z : ℤ). FitsSigned w32 z) (sym word_is)
        (SFits-int_wrap w32 _) in
        writes_fits x (record l { memory = m3 }) (local_address l.registers.workspace (negsuc 3)) w.place
        (Some return_word) r _
        (local_place a3.frame (negsuc 3) (omega (arith, ints)) w.place w.is w.inside) w.mine
        (go (with_word m3 w.place (Some return_word))
        (after_write x third (record l { memory = m3 }) (negsuc 3) Unknown (Some return_word) a3 t3 w says_nothing)
        (record {
          own = changes_more x.h x.memory m3 (with_word m3 w.place (Some return_word)) c3.own
              (write_is_own x.h m3 w.place (Some return_word) w.mine);
          keeps = keeps_more c3.keeps (write_keeps x.m x.h (scope_of x.m x.context x.act.layout)
              (s.depth +ℤ negsuc 3) m3
              (Some return_word) (ap (λ (n : ℕ). rights.may_write_word x.m n (s.depth +ℤ negsuc 3)) (sym same) ∙ t3)
              (written_readable x.m x.context (s.depth +ℤ negsuc 3)
              (ap (λ (n : ℕ). rights.may_write_word x.m n (s.depth +ℤ negsuc 3)) (sym same) ∙ t3)) w);
        })
        (frame_word_is (with_word m3 w.place (Some return_word)) (place_in x.act.layout.origin (s.depth +ℤ negsuc 3))
        (pos 0) w.place
        (let at = w.is in omega (arith, ints, at))
        ∙ word_at-with_word m3 w.place return_word w.inside fits ∙ ap (λ (z : ℤ). Some z) word_is)))))

    module _ (to : ℕ) (f : Entered) (some : 1 ≤ f.context)
        (is : slice_get x.m.procedures (f.context - 1) ≡ Some f.procedure)
        (found : procedure_at x.m to ≡ Some f) (entry : f.procedure.entry ≡ to) where
      procedure_fits : FitsIf x (calls_procedure (rule_site x) to s f) (passing_step to)
      unfolding calls_procedure ends_are_given behind_call written
      procedure_fits =
          wants_fits x _ _ _ _ (λ numbers. wants_fits x _ _ _ _ (λ pointers. wants_fits x _ _ _ _ (λ beside.
          wants_fits x _ _ _ _ (λ held. wants_fits x _ _ _ _ (λ lengths.
          in_plain_rule x s a.same_mode _ _ (beside_plain_rule x s a.same_mode _ _
          (wants_fits x _ _ _ _ (λ may. wants_fits x _ _ _ _ (λ own.
          let row = (wf.procedures (f.context - 1) f.procedure is).1 in
          let t0 = own_below x.m s f.procedure row.lo_high row.hi_low (negsuc 0) own (omega (arith, ints))
          (omega (arith, ints)) in
          let t1 = own_below x.m s f.procedure row.lo_high row.hi_low (negsuc 1) own (omega (arith, ints))
          (omega (arith, ints)) in
          let t2 = own_below x.m s f.procedure row.lo_high row.hi_low (negsuc 2) own (omega (arith, ints))
          (omega (arith, ints)) in
          let t3 = own_below x.m s f.procedure row.lo_high row.hi_low (negsuc 3) own (omega (arith, ints))
          (omega (arith, ints)) in
          settled (passing x.m s) (passing_is x.m s t0 t1 t2 t3) own numbers pointers beside
          (record { held = (and_parts _ _ held).0; once = (and_parts _ _ held).1; lengths = lengths })
          t0 t1 t2 t3)))))))))
        where
          settled : (z : State) → z ≡ all_passed s → frame_is_own (call_in to f some is found entry z) ≡ true
              → list_all (rule.numbers_fit (call_in to f some is found entry z)) f.procedure.parameters ≡ true
              → list_all (rule.pointers_fit (call_in to f some is found entry z)) f.procedure.parameters ≡ true
              → rule.regions_are_apart (call_in to f some is found entry z) ≡ true
              → EndsPass (call_in to f some is found entry z)
              → rights.may_write_word x.m s.context (s.depth +ℤ negsuc 0) ≡ true
              → rights.may_write_word x.m s.context (s.depth +ℤ negsuc 1) ≡ true
              → rights.may_write_word x.m s.context (s.depth +ℤ negsuc 2) ≡ true
              → rights.may_write_word x.m s.context (s.depth +ℤ negsuc 3) ≡ true
              → FitsIf x (spends (x.len + f.procedure.number) (behind_call (call_in to f some is found entry z))
              (calls to)) (passing_step to)
          settled z e own numbers pointers beside held t0 t1 t2 t3 =
              subst (λ (y : State). FitsIf x (spends (x.len + f.procedure.number)
              (behind_call (call_in to f some is found entry y)) (calls to)) (passing_step to)) (sym e)
              (spends_fits _ _ _ _ (λ paid. passing_fits to _ t0 t1 t2 t3 (λ memory a4 c4 returned.
              lands_fits to _ _ (subst (λ (k : ℕ). k < length x.m.code) entry
              (wf.procedures (f.context - 1) f.procedure is).1.in_code)
              (called to f some is found entry
              (subst (λ (y : State). frame_is_own (call_in to f some is found entry y) ≡ true) e own)
              (subst (λ (y : State). list_all (rule.numbers_fit (call_in to f some is found entry y))
              f.procedure.parameters ≡ true) e numbers)
              (subst (λ (y : State). list_all (rule.pointers_fit (call_in to f some is found entry y))
              f.procedure.parameters ≡ true) e pointers)
              (subst (λ (y : State). rule.regions_are_apart (call_in to f some is found entry y) ≡ true) e beside)
              (subst (λ (y : State). EndsPass (call_in to f some is found entry y)) e held)
              memory a4 c4 returned paid))))

    pub call_fits : (e : ℤ) → FitsIf x (call_rule (rule_site x) e s)
        (step.instruction_step (step_site x) instructions.Call e l)
    unfolding call_rule step.instruction_step
    call_fits e = in_plain_step x s a.same_mode _ _ (on_found (procedure_at x.m (target (x.at + x.len) e)) refl)
      where
        to : ℕ
        to = target (x.at + x.len) e

        on_found : (o : Option Entered) → procedure_at x.m (target (x.at + x.len) e) ≡ o
            → FitsIf x (elim o as (λ o. Ruling) [
              | None ↦ ruling.alone s.mode (breaks rules.Call)
              | Some found ↦ calls_procedure (rule_site x) (target (x.at + x.len) e) s found
            ]) (passing_step (target (x.at + x.len) e))
        on_found None is = in_plain_rule x s a.same_mode _ _ (beside_plain_rule x s a.same_mode _ _ (λ next. it_breaks))
        on_found (Some f) is =
            let row = found_row 1 x.m.procedures (target (x.at + x.len) e) f is in
            procedure_fits (target (x.at + x.len) e) f row.0 row.1 is row.2

    -- ---- returns

    -- what a return finds
    record Returning : Type 0 where
      some : 1 ≤ s.context
      few : s.context ≤ length x.m.procedures
      depth : s.depth ≡ pos 0
      reads : rights.may_read_word x.m s.context (pos 0) ≡ true
      fact : s.frame (pos 0) ≡ Alone ReturnAddress

    returning : may_return x.m s ≡ true → Returning
    returning h =
        let p = and_parts (nat_lt 0 s.context && nat_lt s.context (first_branch x.m) && is_same_number s.depth (pos 0))
        (rule.is_return_address (s.frame (pos 0))) h in
        let q = and_parts (nat_lt 0 s.context && nat_lt s.context (first_branch x.m)) (is_same_number s.depth (pos 0))
        p.0 in
        let r = and_parts (nat_lt 0 s.context) (nat_lt s.context (first_branch x.m)) q.0 in
        let some : 1 ≤ s.context = less 0 s.context r.0 in
        let few : s.context ≤ length x.m.procedures = let u = less s.context (first_branch x.m) r.1 in omega arith in
        let row = procedure_row x.m.procedures (s.context - 1) (omega arith) in
        record {
          some = some;
          few = few;
          depth = same_word_by s.depth (pos 0) q.1;
          reads = own_zero row.0 row.1 some few;
          fact = is_address (s.frame (pos 0)) p.1;
        }
      where
        less : (i j : ℕ) → nat_lt i j ≡ true → i < j
        less i j e = elim (leb_tells (suc i) j) [
          | inl t ↦ omega (arith, t.1)
          | inr t ↦ let no' : false ≡ true = sym t.0 ∙ e in absurd (cc)
        ]

        is_address : (f : WordFact) → rule.is_return_address f ≡ true → f ≡ Alone ReturnAddress
        is_address (Alone ReturnAddress) e = refl
        is_address (Alone Unknown) e = absurd (cc)
        is_address (Alone (Number lo hi)) e = absurd (cc)
        is_address (Alone (Pointer region lo hi step)) e = absurd (cc)
        is_address (Alone (CodeAddress offset)) e = absurd (cc)
        is_address (Alone (Loop base count weight)) e = absurd (cc)
        is_address (Index loop) e = absurd (cc)
        is_address (Count loop) e = absurd (cc)

        own_zero : (p : Procedure) → slice_get x.m.procedures (s.context - 1) ≡ Some p → 1 ≤ s.context
            → s.context ≤ length x.m.procedures → rights.may_read_word x.m s.context (pos 0) ≡ true
        own_zero p is some few =
            let row = (wf.procedures (s.context - 1) p is).1 in
            let low = row.lo_high in
            let high = row.hi_low in
            let has : rights.has_word (context_at x.m s.context) (pos 0) ≡ true =
            ap (λ c. rights.has_word c (pos 0)) (procedure-at x.m s.context p some is)
            ∙ and_from _ _ (le-int_le p.lo (pos 0) low) (lt-int_lt (pos 0) p.hi (omega (arith, ints, high))) in
            and_from _ _ has (ap (λ (o : Option (Par × Branch)). elim o as (λ o. Bool) [
              | None ↦ true
              | Some found ↦ rights.is_among found.1.writes (pos 0) || rights.is_among found.1.reads (pos 0)
            ]) (ap (λ (b : Bool). if b then None else slice_get (branches_of x.m.pars) (s.context - first_branch x.m))
            (le-leb (suc s.context) (first_branch x.m) (omega arith))))

    -- the place of the workspace of one that returns
    at_workspace : (r : Returning) (place : ℕ) → pos place ≡ place_in x.act.layout.origin (pos 0)
        → place + 4 ≤ length l.memory → place_of l.registers.workspace ≡ place
    unfolding place_of
    at_workspace r place is inside =
        let d = r.depth in
        let at = a.frame.start in
        let low = a.frame.small in
        let w : l.registers.workspace ≡ data_start + place = omega (arith, ints, d, at, is) in
        ap (λ (n : ℕ). (n + 2147483392) % 4294967296) w ∙ (omega arith)

    -- the value that word 0 has
    back_word : ℤ
    back_word = word_of (pos (code_address x.m x.act.layout.back))

    has_back : (r : Returning) (place : ℕ) → pos place ≡ place_in x.act.layout.origin (pos 0)
        → word_at l.memory place ≡ Some back_word
    unfolding back_word
    has_back r place is =
        sym (frame_word_is l.memory x.act.layout.origin (pos 0) place is)
        ∙ on_means (frame_word l.memory x.act.layout.origin (pos 0))
        (subst (λ (f : WordFact). MeansWord x.m x.act (pos 0) f
        (frame_word l.memory x.act.layout.origin (pos 0))) r.fact
        (a.knows.words (pos 0) r.reads))
      where
        on_means : (v : Option ℤ) → MeansWord x.m x.act (pos 0) (Alone ReturnAddress) v
            → v ≡ Some (word_of (pos (code_address x.m x.act.layout.back)))
        on_means None (is_fact means) = elim means [ ]
        on_means (Some v) (is_fact (is_return_address e)) = ap (λ (z : ℤ). Some z) e

    -- the offset that the address is
    back_offset : step.code_offset (step_site x) (step.address back_word) ≡ x.act.layout.back
    unfolding back_word
    back_offset =
        let low = a.named.back in
        let few = wf.few_words in
        let short = wf.short_code in
        ap (λ (n : ℕ). (n + 4294967296 - (data_start + 4 * x.m.data_words)) % 4294967296)
        (address_of_word (code_address x.m x.act.layout.back))
        ∙ offset x.m.data_words x.act.layout.back (omega arith) few
      where
        offset : (words back : ℕ) → back < 262144 → words ≤ 16384
            → ((data_start + 4 * words + back) % 4294967296 + 4294967296 - (data_start + 4 * words)) % 4294967296 ≡ back
        offset words back low few = omega arith

    pub return_fits : FitsIf x (return_rule (rule_site x) s) (step.operation_step (step_site x) operations.Return l)
    unfolding return_rule step.operation_step ruling.pays step.uses
    return_fits =
        in_plain_step x s a.same_mode _ _ (in_plain_rule x s a.same_mode _ _ (beside_plain_rule x s a.same_mode _ _
        (wants_fits x _ _ _ _ (λ may.
        let r = returning may in
        let w = a.frame.readable (pos 0) r.reads in
        on_rule_test x (ltb s.number x.len) _ _ _ (λ t next. it_breaks) (λ paid.
        reads_fits x l l.registers.workspace w.place _ _ (at_workspace r w.place w.is w.inside) w.readable
        (subst (λ (v : Option ℤ). FitsIf x returns (step.uses v (λ back. step.lands_at (step_site x)
        (step.code_offset (step_site x) (step.address back)) (step.without_registers (step.with_workspace
        (local_address l.registers.workspace (pos 4)) l))))) (sym (has_back r w.place w.is))
        (subst (λ (to : ℕ). FitsIf x returns
        (step.lands_at (step_site x) to (step.without_registers (step.with_workspace
        (local_address l.registers.workspace (pos 4)) l)))) (sym back_offset)
        (lands_fits x.act.layout.back returns _ a.named.back (λ next.
        it_returns (subst (λ (n : ℕ). 1 ≤ n) same r.some) (subst (λ (n : ℕ). n ≤ length x.m.procedures) same r.few)
        a.same_mode.step changes refl (workspace_is r w.place w.is w.inside) a.named.back
        (let e = enough s.number x.len (dues s.frame x.act.turns) x.owed paid n in omega (arith, e)))))))))))
      where
        workspace_is : (r : Returning) (place : ℕ) → pos place ≡ place_in x.act.layout.origin (pos 0)
            → place + 4 ≤ length l.memory
            → pos (local_address l.registers.workspace (pos 4)) ≡ pos data_start +ℤ place_in x.act.layout.origin (pos 4)
        workspace_is r place is inside =
            let d = r.depth in
            let at = a.frame.start in
            let low = a.frame.small in
            let w : l.registers.workspace ≡ data_start + place = omega (arith, ints, d, at, is) in
            four_above l.registers.workspace place x.act.layout.origin w is (omega arith)
