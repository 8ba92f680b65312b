-- The instructions on words: what their rules say fits their steps.
use Rattle.std.proofs.Common.{lit<, ◌≡◌, ◌≢◌, ◌+◌, ◌-◌, ◌≤◌, ℕ, suc, ℤ, pos, negsuc, ◌+ℤ◌, ◌*ℤ◌, ◌≤ℤ◌, ◌<ℤ◌}
use Rattle.std.proofs.Common.{FitsSigned, Bool, true, false, not, ◌&&◌, if◌then◌else◌, inl, inr, length, Option, Some}
use Rattle.std.proofs.Common.{None, IsSomeAnd, refl, sym, ap, ◌∙◌, subst, arith, ltb}
use Rattle.std.proofs.lemmas.Bool.{le-leb, and_parts, le-ltb}
use Rattle.std.proofs.lemmas.Bool.Decides.{eqb_tells, nat_tests}
use Rattle.std.proofs.lemmas.Int.{ints}
use Rattle.std.specs.Prelude.{int_le, int_lt, nat_abs, ◌==◌}
use Rattle.std.specs.Int.{w32, cast_unsigned}
use Rattle.small_laws.proofs.Comparisons.{int_le-true, int_lt-true}
use Rattle.word_arithmetic.specs.declared.binary.Binary.{Binary as BinaryOperation}
use Rattle.word_arithmetic.specs.declared.unary.Unary.{Unary as UnaryOperation}
use Rattle.word_arithmetic.specs.Word.{least_word, is_below_unsigned}
use Rattle.word_arithmetic.specs.Range.{Ends, InRange, IsRange, IsWordIn, full}
use Rattle.word_arithmetic.specs.Binary.{result_range}
use Rattle.word_arithmetic.proofs.EndsLaws.{member_fits}
use Rattle.module_format.specs.Rows.{Fact}
use Rattle.module_format.specs.declared.fact.Fact.TheVariants.{Unknown, Number, Pointer, CodeAddress, Loop}
use Rattle.module_format.specs.declared.fact.Region.TheVariants as regions
use Rattle.module_format.specs.declared.fact.Fact.TheVariants.{ReturnAddress}
use Rattle.module_format.specs.declared.fact.Step.TheVariants.{Word}
use Rattle.module_format.specs.declared.contexts.Context.{Context}
use Rattle.module_format.specs.Contents.{Contents}
use Rattle.module_format.specs.Contexts.{context_at}
use Rattle.machine_state.specs.declared.fault.FaultKind.TheVariants.{ErrorFlag, UnknownOperation, CountRange}
use Rattle.machine_state.specs.declared.op.Shift.{Shift}
use Rattle.machine_state.specs.declared.op.LongOp.{LongOp}
use Rattle.machine_state.specs.declared.op.Op.TheVariants as operations
use Rattle.machine_state.specs.declared.instruction.Instruction.TheVariants as instructions
use Rattle.machine_state.specs.Memory.{Memory, local_address, word_at}
use Rattle.machine_state.specs.LocalStep as step
use Rattle.machine_state.specs.LocalStep.{target}
use Rattle.machine_state.specs.Site.{Local, fails}
use Rattle.states.specs.declared.rule.Rule.TheVariants as rules
use Rattle.states.specs.declared.known.WordFact.{WordFact}
use Rattle.states.specs.declared.known.Source.{Source}
use Rattle.states.specs.declared.known.Source.TheVariants.{Nowhere}
use Rattle.states.specs.State.{State, plain, one_word, written, known}
use Rattle.rulings.specs.Rulings as rule
use Rattle.rulings.specs.Rulings.{Ruling, breaks}
use Rattle.local_rules.specs.WordRules as word
use Rattle.rulings.specs.Pointers.{is_near, near}
use Rattle.local_rules.specs.WordRules.{has_range}
use Rattle.local_rules.specs.LocalRules as table
use Rattle.rulings.specs.Meaning.{Activation, IsOffset, Means, is_number, is_pointer, frame_word, words_in, ComesFrom}
use Rattle.rulings.specs.Meaning.{from_nowhere, from_word, MeansWord, MeansKnown, frame_lo, frame_hi, owed}
use Rattle.rulings.specs.Meaning.{IsWellFormed}
use Rattle.rulings.specs.Fitting.{Changes, After, Situation, rule_site, step_site, it_falls, it_breaks, goes_behind}
use Rattle.rulings.specs.Fitting.{StandsAt}
use Rattle.rulings.specs.Fitting.{is_landing}
use Rattle.rulings.proofs.Within.{Within, ArePlain, AreStill, whole_after, within_paid}
use Rattle.rulings.proofs.Words.{local_place, local_word, moved_workspace, frame_word_is, stored_means, plain_means}
use Rattle.local_rules.proofs.Results.{ResultMeans, Lies, lies, two_means, result_means, unary_result_means}
use Rattle.local_rules.proofs.Results.{numbers_fit, shift_computed, shift_holds, long_holds}
use Rattle.local_rules.proofs.Sources.{result_comes, constant_comes}
use Rattle.local_rules.proofs.NarrowedWords.{narrowed_means, narrowed_dues}
use Rattle.rulings.proofs.Dues.{changed_dues}
use Rattle.rulings.proofs.Combining.{stays_by, stacked, going_on_fits, still_rule_fits, still_step_fits, FitsIf}
use Rattle.rulings.proofs.Combining.{unknown_means}
use Rattle.rulings.proofs.Combining.{paid, below_not, on_rule_test, on_step_test, uses_value, uses_fits}
use Rattle.rulings.proofs.Combining.{in_bounds_fits, holds_fits, writes_word_fits, reads_word_fits, reads_fits}
use Rattle.rulings.proofs.Combining.{goes_on_fits, write_step, label_fits, on_label, in_plain_rule, beside_plain_rule}
use Rattle.rulings.proofs.Combining.{in_plain_step, after_stack, pays_fits}

-- a multiple of four is one
four_times : (k : ℤ) → IsOffset Word (pos 4 *ℤ k)
four_times (pos n) = grind (arith, nat_tests)
four_times (negsuc n) = grind (arith, nat_tests)

-- what is at least as great as a number of another range is so without signs, where neither is negative
unsigned_below : (u v : ℤ) (r t : Ends) → IsRange r → IsRange t → InRange r u → InRange t v → (k : ℕ) → pos 0 ≤ℤ r.lo
    → (r.hi +ℤ pos k) ≤ℤ t.lo → cast_unsigned w32 u + k ≤ cast_unsigned w32 v
unsigned_below u v r t p q a b k low high =
    let f = member_fits r u p a in
    let g = member_fits t v q b in
    let from = a.from_lo in
    let to = a.to_hi in
    let least = b.from_lo in
    omega (arith, ints, f, g)

-- a number in bounds is a subscript, and a count
subscript_below : (u v : ℤ) (r t : Ends) → IsRange r → IsRange t → InRange r u → InRange t v → pos 0 ≤ℤ r.lo
    → r.hi <ℤ t.lo → is_below_unsigned u v ≡ true
subscript_below u v r t p q a b low high =
    let less = unsigned_below u v r t p q a b 1 low (omega (arith, ints)) in
    le-leb (suc (cast_unsigned w32 u)) (cast_unsigned w32 v) (omega (arith, less))

count_within : (u v : ℤ) (r t : Ends) → IsRange r → IsRange t → InRange r u → InRange t v → pos 1 ≤ℤ r.lo
    → r.hi ≤ℤ t.lo → (not (cast_unsigned w32 u == 0) && not (is_below_unsigned v u)) ≡ true
count_within u v r t p q a b low high =
    let f = member_fits r u p a in
    let from = a.from_lo in
    let least = unsigned_below u v r t p q a b 0 (omega (arith, ints)) (omega (arith, ints)) in
    elim (eqb_tells (cast_unsigned w32 u) 0) [
      | inl e ↦ let zero : cast_unsigned w32 u ≡ 0 = e.1 in absurd (omega (arith, ints, f))
      | inr e ↦ ap (λ (x : Bool). not x && not (is_below_unsigned v u)) e.0
          ∙ ap not (le-ltb (cast_unsigned w32 v) (cast_unsigned w32 u) (omega (arith, least)))
    ]

-- what is loaded comes from its word, if it is a number
loaded_source : {counts : ℤ → Bool} {memory : Memory} {origin : ℤ} {v : Option ℤ} (k : ℤ) (f : Fact) → counts k ≡ true
    → v ≡ frame_word memory origin k → ComesFrom counts memory origin (word.source_of k f) v
loaded_source k (Number lo hi) inside is = from_word inside is
loaded_source k Unknown inside is = from_nowhere
loaded_source k (Pointer region lo hi step) inside is = from_nowhere
loaded_source k (CodeAddress offset) inside is = from_nowhere
loaded_source k (Loop base count weight) inside is = from_nowhere
loaded_source k ReturnAddress inside is = from_nowhere

loaded_means : (m : Contents) (counts : ℤ → Bool) (act : Activation) (k : ℤ) (f : WordFact) (memory : Memory)
    (v : Option ℤ) → counts k ≡ true → MeansWord m act k f (frame_word memory act.layout.origin k)
    → frame_word memory act.layout.origin k ≡ v → MeansKnown m counts act.layout memory (word.word_as_known k f) v
loaded_means m counts act k f memory v inside means is = record {
  fact = subst (λ (x : Option ℤ). Means m act.layout (plain f) x) is (plain_means m act k f _ means);
  source = loaded_source k (plain f) inside (sym is);
}

-- ---- in every mode

module _ (x : Situation) (s : State) (l : Local) (a : After x.m x.h x.mode x.act s l) (same : s.context ≡ x.context)
    (changes : Changes x l.memory) (n : owed s x.act ≤ x.owed) (here : StandsAt x s l) where
  pub ldc_fits : (e : ℤ) → FitsSigned w32 e
      → FitsIf x (rule.goes_on (rule_site x) (rule.push (word.known_constant e) s))
      (step.goes_on (step_site x) (step.push (Some e) l))
  ldc_fits e fits = going_on_fits x (rule.push (word.known_constant e) s) (step.push (Some e) l)
      (stacked a (record {
        a = record { fact = is_number (omega (arith, ints)) (omega (arith, ints)) fits; source = from_nowhere };
        b = a.knows.registers.a;
        c = a.knows.registers.b;
      })) same changes n (λ busy. stays_by x here _ _ refl refl refl refl)

  pub pointer_fits : (e : ℤ) → FitsSigned w32 e
      → FitsIf x (table.local_rule (rule_site x) instructions.LoadLocalPointer e s)
      (step.instruction_step (step_site x) instructions.LoadLocalPointer e l)
  unfolding table.local_rule step.instruction_step near
  pointer_fits e fits =
      let offset : ℤ = pos 4 *ℤ (s.depth +ℤ e) in
      on_rule_test x (is_near offset) _ _ _ (λ t.
      going_on_fits x (rule.push (known (Pointer regions.Frame offset offset Word)) s)
      (step.push (Some (step.word_of (local_address l.registers.workspace e))) l)
      (stacked a (record {
        a = record {
          fact = is_pointer offset (omega (arith, ints)) (omega (arith, ints)) (four_times (s.depth +ℤ e))
              (local_word l.registers.workspace e _ fits (omega (arith, ints, a.frame.start)));
          source = from_nowhere;
        };
        b = a.knows.registers.a;
        c = a.knows.registers.b;
      })) same changes n (λ busy. stays_by x here _ _ refl refl refl refl)) (λ t next. it_breaks)

-- ---- but among the starts of a PAR

module _ (x : Situation) (s : State) (l : Local) (a : Within AreStill x.m x.h x.mode x.act s l)
    (same : s.context ≡ x.context)
    (changes : Changes x l.memory) (n : owed s x.act ≤ x.owed) (here : StandsAt x s l) where
  pub ldl_fits : (e : ℤ) → FitsSigned w32 e
      → FitsIf x (table.local_rule (rule_site x) instructions.LoadLocal e s)
      (step.instruction_step (step_site x) instructions.LoadLocal e l)
  unfolding table.local_rule step.instruction_step
  ldl_fits e fits =
      still_rule_fits x s a.same_mode _ _ (still_step_fits x s a.same_mode _ _ (reads_word_fits x s e _ _ (λ t.
      let w = a.frame.readable (s.depth +ℤ e) t in
      reads_fits x l (local_address l.registers.workspace e) w.place _ _
      (local_place a.frame e fits w.place w.is w.inside) w.readable
      (going_on_fits x (rule.push (word.word_as_known (s.depth +ℤ e) (s.frame (s.depth +ℤ e))) s)
      (step.push (word_at l.memory w.place) l)
      (whole_after (after_stack x a (record {
        a = loaded_means x.m (words_in x.m s.context).reads x.act (s.depth +ℤ e) (s.frame (s.depth +ℤ e)) l.memory
            (word_at l.memory w.place) t (a.knows.words (s.depth +ℤ e) t)
            (frame_word_is l.memory x.act.layout.origin (s.depth +ℤ e) w.place w.is);
        b = a.knows.registers.a;
        c = a.knows.registers.b;
      }))) same changes n (λ busy. stays_by x here _ _ refl refl refl refl)))))

  pub mint_fits : FitsIf x (table.local_operation_rule (rule_site x) operations.MinimumInteger s)
      (step.operation_step (step_site x) operations.MinimumInteger l)
  unfolding table.local_operation_rule step.operation_step
  mint_fits =
      still_rule_fits x s a.same_mode _ _
      (still_step_fits x s a.same_mode _ _
      (ldc_fits x s l (whole_after a) same changes n here least_word (record { sfits = lit< tt })))

-- ---- in plain mode

module _ (x : Situation) (s : State) (l : Local) (a : Within ArePlain x.m x.h x.mode x.act s l)
    (same : s.context ≡ x.context)
    (changes : Changes x l.memory) (n : owed s x.act ≤ x.owed) where
  pub stl_fits : (e : ℤ) → FitsSigned w32 e
      → FitsIf x (table.local_rule (rule_site x) instructions.StoreLocal e s)
      (step.instruction_step (step_site x) instructions.StoreLocal e l)
  unfolding table.local_rule step.instruction_step written
  stl_fits e fits =
      in_plain_step x s a.same_mode _ _ (uses_fits x s.stack.a l.registers.stack.a _ _ a.knows.registers.a (λ v means.
      in_plain_rule x s a.same_mode _ _ (beside_plain_rule x s a.same_mode _ _ (writes_word_fits x s e _ _ (λ t.
      write_step x s l e s.stack.a.fact (Some v) _ _ a same changes fits t
      (λ place inside. stored_means x.m x.act.layout s.stack.a.fact v l.memory place inside means.fact) (λ memory b c.
      goes_on_fits x (rule.pop (written (s.depth +ℤ e) s.stack.a.fact s)) (step.pop (record l { memory = memory }))
      (after_stack x b (record { a = b.knows.registers.b; b = b.knows.registers.c; c = unknown_means })) same c
      (omega (arith, n, changed_dues (one_word (s.depth +ℤ e) s.stack.a.fact) s.frame x.act.turns))))))))

  -- what A becomes
  becomes_fits : (s' : State) (l' : Local) (fact : Option Fact) (source : Source) (result : Option ℤ)
      → Within ArePlain x.m x.h x.mode x.act s' l' → s'.context ≡ x.context → Changes x l'.memory
      → owed s' x.act ≤ x.owed
      → ResultMeans x.m x.act.layout fact result
      → ((f : Fact) → fact ≡ Some f
      → ComesFrom (words_in x.m s'.context).reads l'.memory x.act.layout.origin source result)
      → FitsIf x (word.becomes (rule_site x) fact source s')
      (step.computes result (λ v. step.goes_on (step_site x) (step.with_a v l')))
  unfolding word.becomes step.computes
  becomes_fits s' l' None source result b same' c e means comes = λ next. it_breaks
  becomes_fits s' l' (Some f) source None b same' c e means comes = absurd means
  becomes_fits s' l' (Some f) source (Some v) b same' c e means comes =
      in_plain_rule x s' b.same_mode _ _ (beside_plain_rule x s' b.same_mode _ _
      (goes_on_fits x (rule.with_a (record { fact = f; source = source }) s') (step.with_a v l')
      (after_stack x b (record {
        a = record { fact = means; source = comes f refl };
        b = b.knows.registers.b;
        c = b.knows.registers.c;
      })) same' c e))

  -- the registers without A
  after_pop : Within ArePlain x.m x.h x.mode x.act (rule.pop s) (step.pop l)
  after_pop = after_stack x a (record { a = a.knows.registers.b; b = a.knows.registers.c; c = unknown_means })

  pub constant_fits : (op : BinaryOperation) (e : ℤ) → FitsSigned w32 e
      → FitsIf x (table.local_rule (rule_site x) (instructions.WithConstant op) e s)
      (step.instruction_step (step_site x) (instructions.WithConstant op) e l)
  unfolding table.local_rule step.instruction_step
  constant_fits op e fits =
      in_plain_step x s a.same_mode _ _ (uses_fits x s.stack.a l.registers.stack.a _ _ a.knows.registers.a (λ v means.
      becomes_fits s l _ _ _ a same changes n
      (result_means x.m x.act.layout op s.stack.a.fact (Number e e) v e means.fact
      (is_number (omega (arith, ints)) (omega (arith, ints)) fits))
      (λ f is. constant_comes x.m (words_in x.m s.context).reads x.act.layout l.memory op s.stack.a v e means)))

  pub adjust_fits : (e : ℤ) → FitsSigned w32 e
      → FitsIf x (table.local_rule (rule_site x) instructions.AdjustWorkspace e s)
      (step.instruction_step (step_site x) instructions.AdjustWorkspace e l)
  unfolding table.local_rule step.instruction_step word.in_frame
  adjust_fits e fits =
      in_plain_step x s a.same_mode _ _ (in_plain_rule x s a.same_mode _ _ (beside_plain_rule x s a.same_mode _ _
      (on_context (context_at x.m s.context) refl)))
    where
      on_context : (o : Option Context) → context_at x.m s.context ≡ o
          → FitsIf x (elim o as (λ o. Ruling) [
            | None ↦ breaks rules.OwnWord
            | Some context ↦
                if int_le context.lo (s.depth +ℤ e) && int_le (s.depth +ℤ e) context.hi
                then rule.goes_on (rule_site x) (record s { depth = s.depth +ℤ e })
                else breaks rules.OwnWord
          ]) (step.goes_on (step_site x) (step.with_workspace (local_address l.registers.workspace e) l))
      on_context None is = λ next. it_breaks
      on_context (Some context) is = on_rule_test x _ _ _ _ (λ t.
          let both = and_parts (int_le context.lo (s.depth +ℤ e)) (int_le (s.depth +ℤ e) context.hi) t in
          let low : context.lo ≤ℤ (s.depth +ℤ e) = int_le-true context.lo (s.depth +ℤ e) both.0 in
          let high : (s.depth +ℤ e) ≤ℤ context.hi = int_le-true (s.depth +ℤ e) context.hi both.1 in
          let lo : frame_lo x.m s.context ≡ context.lo =
          ap (λ (o : Option Context). elim o as (λ o. ℤ) [ None ↦ pos 0 | Some c ↦ c.lo ]) is in
          let hi : frame_hi x.m s.context ≡ context.hi =
          ap (λ (o : Option Context). elim o as (λ o. ℤ) [ None ↦ pos 0 | Some c ↦ c.hi ]) is in
          let from = a.frame.from_start in
          let to = a.frame.to_end in
          let small = a.frame.small in
          goes_on_fits x (record s { depth = s.depth +ℤ e })
          (step.with_workspace (local_address l.registers.workspace e) l)
          (record {
            frame = record {
              small = a.frame.small;
              from_start = a.frame.from_start;
              to_end = a.frame.to_end;
              own = a.frame.own;
              readable = a.frame.readable;
              start = moved_workspace l.registers.workspace x.act.layout.origin s.depth e fits a.frame.start
                  (omega (arith, ints)) (omega (arith, ints));
            };
            knows = a.knows;
            named = a.named;
            same_mode = a.same_mode;
            modes = a.modes;
            whole = a.whole;
          }) same changes n) (λ t next. it_breaks)

  pub reverse_fits : FitsIf x (table.local_operation_rule (rule_site x) operations.Reverse s)
      (step.operation_step (step_site x) operations.Reverse l)
  unfolding table.local_operation_rule step.operation_step
  reverse_fits =
      in_plain_step x s a.same_mode _ _ (in_plain_rule x s a.same_mode _ _ (beside_plain_rule x s a.same_mode _ _
      (goes_on_fits x (rule.reverse s) (step.reverse l)
      (after_stack x a (record { a = a.knows.registers.b; b = a.knows.registers.a; c = a.knows.registers.c }))
      same changes n)))

  pub binary_fits : (op : BinaryOperation)
      → FitsIf x (table.local_operation_rule (rule_site x) (operations.Binary op) s)
      (step.operation_step (step_site x) (operations.Binary op) l)
  unfolding table.local_operation_rule step.operation_step
  binary_fits op =
      in_plain_step x s a.same_mode _ _ (uses_fits x s.stack.a l.registers.stack.a _ _ a.knows.registers.a (λ v means.
      uses_fits x s.stack.b l.registers.stack.b _ _ a.knows.registers.b (λ u other.
      becomes_fits (rule.pop s) (step.pop l) _ _ _ after_pop same changes n
      (result_means x.m x.act.layout op s.stack.b.fact s.stack.a.fact u v other.fact means.fact)
      (λ f is.
      let fit = numbers_fit x.m x.act.layout (result_range op) s.stack.b.fact s.stack.a.fact f u v is other.fact
      means.fact in
      result_comes x.m (words_in x.m s.context).reads x.act.layout l.memory op s.stack.b s.stack.a u v fit.0 fit.1 other
      means))))

  pub unary_fits : (op : UnaryOperation) → FitsIf x (table.local_operation_rule (rule_site x) (operations.Unary op) s)
      (step.operation_step (step_site x) (operations.Unary op) l)
  unfolding table.local_operation_rule step.operation_step
  unary_fits op =
      in_plain_step x s a.same_mode _ _ (uses_fits x s.stack.a l.registers.stack.a _ _ a.knows.registers.a (λ v means.
      becomes_fits s l _ _ _ a same changes n
      (unary_result_means x.m x.act.layout op s.stack.a.fact v means.fact) (λ f is. from_nowhere)))

  pub shift_fits : (op : Shift) → FitsIf x (table.local_operation_rule (rule_site x) (operations.Shift op) s)
      (step.operation_step (step_site x) (operations.Shift op) l)
  unfolding table.local_operation_rule step.operation_step step.counts step.computes word.becomes
  shift_fits op =
      in_plain_step x s a.same_mode _ _ (uses_fits x s.stack.a l.registers.stack.a _ _ a.knows.registers.a (λ v means.
      uses_fits x s.stack.b l.registers.stack.b _ _ a.knows.registers.b (λ u other.
      on_fact u v (word.fact_of_two (word.shift_range op) s.stack.b.fact s.stack.a.fact)
      (two_means x.m x.act.layout (word.shift_range op) (shift_computed op) (shift_holds op) s.stack.b.fact
      s.stack.a.fact u v other.fact means.fact))))
    where
      on_test : (u v : ℤ) (f : Fact) (b : Bool)
          → IsSomeAnd (if b then Some (step.shift_result op u (nat_abs v)) else None)
          (λ w. Means x.m x.act.layout f (Some w))
          → FitsIf x (word.becomes (rule_site x) (Some f) Nowhere (rule.pop s))
          (if b then step.replaces_two (step_site x) (step.shift_result op u (nat_abs v)) l else fails CountRange)
      on_test u v f true m =
          becomes_fits (rule.pop s) (step.pop l) (Some f) Nowhere (Some (step.shift_result op u (nat_abs v))) after_pop
          same
          changes n m (λ g is. from_nowhere)
      on_test u v f false m = absurd m

      on_fact : (u v : ℤ) (fact : Option Fact) → ResultMeans x.m x.act.layout fact (shift_computed op u v)
          → FitsIf x (word.becomes (rule_site x) fact Nowhere (rule.pop s))
          (step.counts 0 31 v (λ k. step.replaces_two (step_site x) (step.shift_result op u k) l))
      on_fact u v None m = λ next. it_breaks
      on_fact u v (Some f) m = on_test u v f (int_le (pos 0) v && int_le v (pos 31)) m

  -- ---- long operations

  number_of : (f : Fact) → has_range f ≡ true → (v : ℤ) → Means x.m x.act.layout f (Some v) → FitsSigned w32 v
  number_of (Number lo hi) t v (is_number low high fits) = fits
  number_of Unknown t v means = absurd (cc)
  number_of (Pointer region lo hi step) t v means = absurd (cc)
  number_of (CodeAddress offset) t v means = absurd (cc)
  number_of (Loop base count weight) t v means = absurd (cc)
  number_of ReturnAddress t v means = absurd (cc)

  word_means : (r : Ends) (v : ℤ) → IsWordIn r v → {counts : ℤ → Bool}
      → MeansKnown x.m counts x.act.layout l.memory (known (word.number_in r)) (Some v)
  word_means r v w = record { fact = is_number w.member.from_lo w.member.to_hi w.word; source = from_nowhere }

  pub long_fits : (op : LongOp) → FitsIf x (table.local_operation_rule (rule_site x) (operations.Long op) s)
      (step.operation_step (step_site x) (operations.Long op) l)
  unfolding table.local_operation_rule step.operation_step word.has_long_operations
  long_fits op = on_rule_test x x.m.has_long_operations _ _ _ (λ has.
      holds_fits x x.m.has_long_operations UnknownOperation _ _ has
      (in_plain_step x s a.same_mode _ _ (uses_fits x s.stack.a l.registers.stack.a _ _ a.knows.registers.a (λ v means.
      uses_fits x s.stack.b l.registers.stack.b _ _ a.knows.registers.b (λ u other.
      uses_fits x s.stack.c l.registers.stack.c _ _ a.knows.registers.c (λ w third.
      in_bounds_fits x (has_range s.stack.a.fact && has_range s.stack.b.fact && has_range s.stack.c.fact) _ _ (λ t.
      let both = and_parts _ _ t in
      let first = and_parts (has_range s.stack.a.fact) (has_range s.stack.b.fact) both.0 in
      let results = long_holds op u v w (number_of s.stack.b.fact first.1 u other.fact)
      (number_of s.stack.a.fact first.0 v means.fact) (number_of s.stack.c.fact both.1 w third.fact) in
      in_plain_rule x s a.same_mode _ _ (beside_plain_rule x s a.same_mode _ _
      (goes_on_fits x (record s { stack = word.long_results op })
      (step.on_stack (λ st. record {
        a = Some (step.long_result op u v w).low;
        b = Some (step.long_result op u v w).high;
        c = None;
      }) l)
      (after_stack x a (record {
        a = word_means full _ results.0;
        b = word_means (word.high_range op) _ results.1;
        c = unknown_means;
      })) same changes n))))))))) (λ t next. it_breaks)

  -- ---- checks

  -- two numbers in ranges that pass a test
  record Pass (test : Ends → Ends → Bool) (u v : ℤ) : Type 0 where
    left : Ends
    right : Ends
    first : Lies x.m x.act.layout left u
    second : Lies x.m x.act.layout right v
    passes : test left right ≡ true

  pass : (test : Ends → Ends → Bool) (f g : Fact) (u v : ℤ) → word.numbers_have test f g ≡ true
      → Means x.m x.act.layout f (Some u) → Means x.m x.act.layout g (Some v) → Pass test u v
  unfolding word.numbers_have
  pass test f g u v h p q = on_left (word.range_of f) refl h
    where
      on_right : (r : Ends) → Lies x.m x.act.layout r u → (o : Option Ends) → word.range_of g ≡ o
          → (elim o as (λ o. Bool) [ None ↦ false | Some t ↦ test r t ]) ≡ true → Pass test u v
      on_right r lies_left None e h = absurd (cc)
      on_right r lies_left (Some t) e h = record {
        left = r;
        right = t;
        first = lies_left;
        second = lies x.m x.act.layout g v t q e;
        passes = h;
      }

      on_left : (o : Option Ends) → word.range_of f ≡ o
          → (elim o as (λ o. Bool) [
            | None ↦ false
            | Some r ↦ elim (word.range_of g) as (λ o. Bool) [ None ↦ false | Some t ↦ test r t ]
          ]) ≡ true → Pass test u v
      on_left None e h = absurd (cc)
      on_left (Some r) e h = on_right r (lies x.m x.act.layout f u r p e) (word.range_of g) refl h

  -- an instruction that tests A and B, and leaves B in A
  check_fits : (test : Ends → Ends → Bool) (holds : ℤ → ℤ → Bool)
      → ((u v : ℤ) → Pass test u v → holds u v ≡ true)
      → FitsIf x (rule.uses s.stack.a (λ a. rule.uses s.stack.b (λ b.
      rule.in_bounds (word.numbers_have test b a) (rule.alone s.mode (rule.goes_on (rule_site x) (rule.pop s))))))
      (step.alone x.mode (step.uses l.registers.stack.a (λ a. step.uses l.registers.stack.b (λ b.
      step.holds (holds b a) ErrorFlag (step.goes_on (step_site x) (step.pop l))))))
  check_fits test holds so =
      in_plain_step x s a.same_mode _ _ (uses_fits x s.stack.a l.registers.stack.a _ _ a.knows.registers.a (λ v means.
      uses_fits x s.stack.b l.registers.stack.b _ _ a.knows.registers.b (λ u other.
      in_bounds_fits x (word.numbers_have test s.stack.b.fact s.stack.a.fact) _ _ (λ t.
      holds_fits x (holds u v) ErrorFlag _ _
      (so u v (pass test s.stack.b.fact s.stack.a.fact u v t other.fact means.fact))
      (in_plain_rule x s a.same_mode _ _ (beside_plain_rule x s a.same_mode _ _
      (goes_on_fits x (rule.pop s) (step.pop l) after_pop same changes n)))))))

  pub subscript_fits : FitsIf x (table.local_operation_rule (rule_site x) operations.CheckSubscript s)
      (step.operation_step (step_site x) operations.CheckSubscript l)
  unfolding table.local_operation_rule step.operation_step
  subscript_fits = check_fits word.is_subscript is_below_unsigned (λ u v p.
      let both = and_parts (int_le (pos 0) p.left.lo) (int_lt p.left.hi p.right.lo) p.passes in
      let low : pos 0 ≤ℤ p.left.lo = int_le-true (pos 0) p.left.lo both.0 in
      let high : p.left.hi <ℤ p.right.lo = int_lt-true p.left.hi p.right.lo both.1 in
      subscript_below u v p.left p.right p.first.range p.second.range p.first.member p.second.member low high)

  pub count_fits : FitsIf x (table.local_operation_rule (rule_site x) operations.CheckCount s)
      (step.operation_step (step_site x) operations.CheckCount l)
  unfolding table.local_operation_rule step.operation_step
  count_fits = check_fits word.is_count (λ u v. not (step.address u == 0) && not (is_below_unsigned v u)) (λ u v p.
      let both = and_parts (int_le (pos 1) p.left.lo) (int_le p.left.hi p.right.lo) p.passes in
      let low : pos 1 ≤ℤ p.left.lo = int_le-true (pos 1) p.left.lo both.0 in
      let high : p.left.hi ≤ℤ p.right.lo = int_le-true p.left.hi p.right.lo both.1 in
      count_within u v p.left p.right p.first.range p.second.range p.first.member p.second.member low high)

  -- ---- cj

  -- where the condition had this result
  after_narrowing : (s' : State) (l' : Local) (source : Source) (holds : Bool) (v : ℤ)
      → Within ArePlain x.m x.h x.mode x.act s' l'
      → ComesFrom (words_in x.m s'.context).reads l'.memory x.act.layout.origin source (Some v)
      → (holds ≡ true → v ≢ pos 0)
      → (holds ≡ false → v ≡ pos 0)
      → Within ArePlain x.m x.h x.mode x.act (record s' { frame = word.narrowed_words source holds s'.frame }) l'
  after_narrowing s' l' source holds v b comes so not_so = record {
    frame = b.frame;
    knows = record {
      registers = b.knows.registers;
      words = narrowed_means x.m x.act (words_in x.m s'.context).reads l'.memory s'.frame source holds v comes so not_so
          b.knows.words;
    };
    named = b.named;
    same_mode = b.same_mode;
    modes = b.modes;
    whole = b.whole;
  }

  -- a word is 0 exactly if its bits are
  zero_from : (v : ℤ) → FitsSigned w32 v → (step.address v == 0) ≡ true → v ≡ pos 0
  zero_from v fits t = elim (eqb_tells (step.address v) 0) [
    | inl p ↦ let e : step.address v ≡ 0 = p.1 in omega (arith, ints, fits, e)
    | inr p ↦ let no' : true ≡ false = sym t ∙ p.0 in absurd (cc)
  ]

  not_zero_from : (v : ℤ) → (step.address v == 0) ≡ false → v ≢ pos 0
  not_zero_from v t e = elim (eqb_tells (step.address v) 0) [
    | inl p ↦ let no' : true ≡ false = sym p.0 ∙ t in absurd (cc)
    | inr p ↦ p.1 (omega (arith, ints, e))
  ]

  module _ (wf : IsWellFormed x.m) where
    -- with the condition in A, and the instruction paid
    forks_fits : (s' : State) (to : ℕ) (v : ℤ) → Within ArePlain x.m x.h x.mode x.act s' l → s'.context ≡ x.context
        → owed s' x.act + x.len ≤ x.owed → FitsSigned w32 v → l.registers.stack.a ≡ Some v
        → FitsIf x (rule.forks_to (rule_site x) to (word.where_false s') (word.where_true s'))
        (if step.address v == 0 then step.lands_at (step_site x) to l else step.goes_on (step_site x) (step.pop l))
    unfolding rule.forks_to step.lands_at step.goes_on
    forks_fits s' to v b same' paid fits is = on_label x to (word.where_false s') _ _ (λ t cost e below_is.
        on_step_test x (step.address v == 0) _ _ _
        (λ u. on_step_test x (ltb to (length x.m.code)) _ _ _
        (λ w. label_fits x wf e below_is refl is_landing (false_after (zero_from v fits u)) same' changes
        (omega (arith, paid, narrowed_dues s'.stack.a.source false s'.frame x.act.turns)))
        (λ w. absurd (below_not _ _ (wf.labels to t e) w)))
        (λ u. on_step_test x (ltb (x.at + x.len) (length x.m.code)) _ _ _
        (λ w next. it_falls refl goes_behind (next _ refl) (whole_after (true_after (not_zero_from v u))) same' changes
        (omega (arith, paid, narrowed_dues s'.stack.a.source true s'.frame x.act.turns))
        (λ busy. absurd (busy b.same_mode.step)))
        (λ w next. absurd (below_not _ _ (next _ refl) w))))
      where
        comes : ComesFrom (words_in x.m s'.context).reads l.memory x.act.layout.origin s'.stack.a.source (Some v)
        comes = subst (λ (o : Option ℤ). ComesFrom (words_in x.m s'.context).reads l.memory x.act.layout.origin
            s'.stack.a.source o) is b.knows.registers.a.source

        false_after : v ≡ pos 0 → Within ArePlain x.m x.h x.mode x.act (word.where_false s') l
        false_after zero = after_stack x
            (after_narrowing s' l s'.stack.a.source false v b comes (λ e. absurd (cc)) (λ e. zero))
            (record {
              a = record {
                fact = subst (λ (o : Option ℤ). Means x.m x.act.layout (Number (pos 0) (pos 0)) o) (sym is)
                    (is_number (omega (arith, ints, zero)) (omega (arith, ints, zero)) fits);
                source = from_nowhere;
              };
              b = b.knows.registers.b;
              c = b.knows.registers.c;
            })

        true_after : v ≢ pos 0 → Within ArePlain x.m x.h x.mode x.act (word.where_true s') (step.pop l)
        true_after other = after_stack x
            (after_narrowing s' l s'.stack.a.source true v b comes (λ e. other) (λ e. absurd (cc)))
            (record { a = b.knows.registers.b; b = b.knows.registers.c; c = unknown_means })

    pub cj_fits : (e : ℤ) → FitsSigned w32 e
        → FitsIf x (table.local_rule (rule_site x) instructions.ConditionalJump e s)
        (step.instruction_step (step_site x) instructions.ConditionalJump e l)
    unfolding table.local_rule step.instruction_step rule.forward
    cj_fits (negsuc k) fits =
        in_plain_step x s a.same_mode _ _ (uses_fits x s.stack.a l.registers.stack.a _ _ a.knows.registers.a (λ v means.
        in_bounds_fits x (has_range s.stack.a.fact) _ _ (λ t.
        in_plain_rule x s a.same_mode _ _ (λ next. it_breaks))))
    cj_fits (pos k) fits =
        in_plain_step x s a.same_mode _ _ (uses_value x s.stack.a l.registers.stack.a _ _ a.knows.registers.a
        (λ v is means.
        in_bounds_fits x (has_range s.stack.a.fact) _ _ (λ t.
        in_plain_rule x s a.same_mode _ _ (beside_plain_rule x s a.same_mode _ _
        (pays_fits x s _ _ n (λ left.
        forks_fits (record s { number = s.number - x.len }) (target (x.at + x.len) (pos k)) v (within_paid a) same left
        (number_of s.stack.a.fact t v means.fact) is))))))
