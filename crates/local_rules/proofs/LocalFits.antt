-- The rule and the step of an instruction of this family fit each other: if the rule is not broken, the step is no
-- fault, and what the rule says of the state after it holds.
use Rattle.std.proofs.Common.{◌≡◌, ◌+◌, ◌≤◌, ◌-◌, ℤ, pos, negsuc, FitsSigned, arith, true, refl}
use Rattle.std.specs.Int.{w32}
use Rattle.std.proofs.lemmas.Bool.{and_parts}
use Rattle.machine_state.specs.declared.op.Op.{Op}
use Rattle.machine_state.specs.declared.op.Op.TheVariants as operations
use Rattle.machine_state.specs.declared.instruction.Instruction.{Instruction}
use Rattle.machine_state.specs.declared.instruction.Instruction.TheVariants as instructions
use Rattle.machine_state.specs.LocalStep as step
use Rattle.machine_state.specs.LocalStep.{target}
use Rattle.machine_state.specs.Site.{Local}
use Rattle.states.specs.State.{State}
use Rattle.rulings.specs.Rulings as rule
use Rattle.local_rules.specs.LocalRules as table
use Rattle.rulings.specs.Meaning.{owed, IsWellFormed}
use Rattle.rulings.specs.Fitting.{Changes, After, Situation, StandsAt, rule_site, step_site, it_ends, it_breaks}
use Rattle.rulings.proofs.Combining.{FitsIf, unknown_means, schedules_fits, leads_fits, in_plain_rule}
use Rattle.rulings.proofs.Combining.{beside_plain_rule, in_plain_step, after_stack, pays_fits}
use Rattle.rulings.proofs.Within.{Within, ArePlain, AreStill, is_starting, whole_after, as_still, which, in_plain_mode}
use Rattle.rulings.proofs.Within.{in_alternation, among_starts}
use Rattle.local_rules.proofs.WordsFit.{ldc_fits, ldl_fits, stl_fits, constant_fits, reverse_fits, mint_fits}
use Rattle.local_rules.proofs.WordsFit.{binary_fits, unary_fits, shift_fits, long_fits, subscript_fits, count_fits}
use Rattle.local_rules.proofs.WordsFit.{pointer_fits, adjust_fits, cj_fits}
use Rattle.local_rules.proofs.MemoryFits.{ldnlp_fits, bsub_fits, wsub_fits, ldpi_fits, ldnl_fits, lb_fits}
use Rattle.local_rules.proofs.WritesFit.{stnl_fits, sb_fits}
use Rattle.local_rules.proofs.MovesFit.{move_fits}
use Rattle.local_rules.proofs.LoopsFit.{lend_fits}
use Rattle.rulings.proofs.OtherModes.{IsBusy, breaks_fit, starting_is_busy}
use Rattle.local_rules.specs.LocalFitting.{LocalRulesFitSteps}
use Rattle.local_rules.proofs.LocalOtherModes.{operation_breaks, instruction_breaks, mint_breaks, ldl_breaks}
use Rattle.local_rules.proofs.LocalOtherModes.{ldnlp_breaks}

-- ---- in plain mode

module _ (x : Situation) (wf : IsWellFormed x.m) (s : State) (l : Local) (a : Within ArePlain x.m x.h x.mode x.act s l)
    (same : s.context ≡ x.context) (changes : Changes x l.memory) (n : owed s x.act ≤ x.owed) (here : StandsAt x s l)
  where
    j_fits : (e : ℤ) → FitsSigned w32 e
        → FitsIf x (table.local_rule (rule_site x) instructions.Jump e s)
        (step.instruction_step (step_site x) instructions.Jump e l)
    unfolding table.local_rule step.instruction_step rule.forward
    j_fits (negsuc k) fits = in_plain_rule x s a.same_mode _ _ (λ next. it_breaks)
    j_fits (pos k) fits =
        in_plain_step x s a.same_mode _ _ (in_plain_rule x s a.same_mode _ _ (beside_plain_rule x s a.same_mode _ _
        (schedules_fits x s l _ _ a same changes (λ s' memory b same' c e.
        pays_fits x s' _ _ (omega (arith, e, n)) (λ left.
        leads_fits x wf (target (x.at + x.len) (pos k))
        (rule.without_registers (record s' { number = s'.number - x.len }))
        (step.without_registers (record l { memory = memory }))
        (after_stack x b (record { a = unknown_means; b = unknown_means; c = unknown_means })) same' c left)))))

    stop_fits : FitsIf x (table.local_operation_rule (rule_site x) operations.StopProcess s)
        (step.operation_step (step_site x) operations.StopProcess l)
    unfolding table.local_operation_rule step.operation_step
    stop_fits =
        in_plain_step x s a.same_mode _ _ (in_plain_rule x s a.same_mode _ _ (beside_plain_rule x s a.same_mode _ _
        (schedules_fits x s l _ _ a same changes
        (λ s' memory b same' c e. pays_fits x s' _ _ (omega (arith, e, n))
        (λ left next. it_ends a.same_mode.step c (omega arith))))))

    operation_fits : (op : Op) → FitsIf x (table.local_operation_rule (rule_site x) op s)
        (step.operation_step (step_site x) op l)
    unfolding table.local_operation_rule
    operation_fits operations.Reverse = reverse_fits x s l a same changes n
    operation_fits operations.MinimumInteger = mint_fits x s l (as_still a) same changes n here
    operation_fits operations.StopProcess = stop_fits
    operation_fits (operations.Binary op) = binary_fits x s l a same changes n op
    operation_fits (operations.Unary op) = unary_fits x s l a same changes n op
    operation_fits (operations.Shift op) = shift_fits x s l a same changes n op
    operation_fits (operations.Long op) = long_fits x s l a same changes n op
    operation_fits operations.CheckSubscript = subscript_fits x s l a same changes n
    operation_fits operations.CheckCount = count_fits x s l a same changes n
    operation_fits operations.ByteSubscript = bsub_fits x s l a same changes n
    operation_fits operations.WordSubscript = wsub_fits x s l a same changes n
    operation_fits operations.LoadPointerToInstruction = ldpi_fits x s l a same changes n
    operation_fits operations.LoadByte = lb_fits x s l a same changes n wf
    operation_fits operations.StoreByte = sb_fits x s l a same changes n
    operation_fits operations.Move = move_fits x wf s l a same changes n
    operation_fits operations.LoopEnd =
        lend_fits x wf s l a a.named.even (λ k t. wf.frames s.context k (and_parts _ _ t).0) same changes n
    operation_fits _ = λ next. it_breaks

    plain_fits : (i : Instruction) (e : ℤ) → FitsSigned w32 e
        → FitsIf x (table.local_rule (rule_site x) i e s)
        (step.instruction_step (step_site x) i e l)
    unfolding table.local_rule step.instruction_step
    plain_fits instructions.LoadConstant e fits = ldc_fits x s l (whole_after a) same changes n here e fits
    plain_fits instructions.LoadLocal e fits = ldl_fits x s l (as_still a) same changes n here e fits
    plain_fits instructions.StoreLocal e fits = stl_fits x s l a same changes n e fits
    plain_fits (instructions.WithConstant op) e fits = constant_fits x s l a same changes n op e fits
    plain_fits instructions.LoadLocalPointer e fits = pointer_fits x s l (whole_after a) same changes n here e fits
    plain_fits instructions.AdjustWorkspace e fits = adjust_fits x s l a same changes n e fits
    plain_fits instructions.Jump e fits = j_fits e fits
    plain_fits instructions.ConditionalJump e fits = cj_fits x s l a same changes n wf e fits
    plain_fits instructions.LoadNonLocalPointer e fits = ldnlp_fits x s l (as_still a) same changes n here e fits
    plain_fits instructions.LoadNonLocal e fits = ldnl_fits x s l a same changes n wf e fits
    plain_fits instructions.StoreNonLocal e fits = stnl_fits x s l a same changes n e fits
    plain_fits instructions.Call e fits = λ next. it_breaks
    plain_fits (instructions.Operate op) e fits = operation_fits op

-- ---- in every mode

module _ (x : Situation) (wf : IsWellFormed x.m) (s : State) (l : Local) (a : After x.m x.h x.mode x.act s l)
    (same : s.context ≡ x.context) (changes : Changes x l.memory) (n : owed s x.act ≤ x.owed) (here : StandsAt x s l)
  where
    -- in an alternation
    module _ (busy : IsBusy s.mode) (b : Within AreStill x.m x.h x.mode x.act s l) where
      guard_operation_fits : (op : Op) → FitsIf x (table.local_operation_rule (rule_site x) op s)
          (step.operation_step (step_site x) op l)
      guard_operation_fits operations.MinimumInteger = mint_fits x s l b same changes n here
      guard_operation_fits op = breaks_fit (operation_breaks (rule_site x) s busy op refl)

      guard_fits : (i : Instruction) (e : ℤ) → FitsSigned w32 e → FitsIf x (table.local_rule (rule_site x) i e s)
          (step.instruction_step (step_site x) i e l)
      unfolding table.local_rule step.instruction_step
      guard_fits instructions.LoadConstant e fits = ldc_fits x s l a same changes n here e fits
      guard_fits instructions.LoadLocal e fits = ldl_fits x s l b same changes n here e fits
      guard_fits instructions.LoadLocalPointer e fits = pointer_fits x s l a same changes n here e fits
      guard_fits instructions.LoadNonLocalPointer e fits = ldnlp_fits x s l b same changes n here e fits
      guard_fits (instructions.Operate op) e fits = guard_operation_fits op
      guard_fits i e fits = breaks_fit (instruction_breaks (rule_site x) s busy i e refl)

    -- among the starts of a PAR
    module _ (starting : is_starting s.mode ≡ true) where
      busy : IsBusy s.mode
      busy = starting_is_busy s.mode starting

      start_operation_fits : (op : Op) → FitsIf x (table.local_operation_rule (rule_site x) op s)
          (step.operation_step (step_site x) op l)
      start_operation_fits operations.MinimumInteger = breaks_fit (mint_breaks (rule_site x) s busy starting)
      start_operation_fits op = breaks_fit (operation_breaks (rule_site x) s busy op refl)

      start_fits : (i : Instruction) (e : ℤ) → FitsSigned w32 e → FitsIf x (table.local_rule (rule_site x) i e s)
          (step.instruction_step (step_site x) i e l)
      unfolding table.local_rule step.instruction_step
      start_fits instructions.LoadConstant e fits = ldc_fits x s l a same changes n here e fits
      start_fits instructions.LoadLocal e fits = breaks_fit (ldl_breaks (rule_site x) s busy starting e)
      start_fits instructions.LoadLocalPointer e fits = pointer_fits x s l a same changes n here e fits
      start_fits instructions.LoadNonLocalPointer e fits =
          breaks_fit (ldnlp_breaks (rule_site x) s busy starting e)
      start_fits (instructions.Operate op) e fits = start_operation_fits op
      start_fits i e fits = breaks_fit (instruction_breaks (rule_site x) s busy i e refl)

    instruction_fits : (i : Instruction) (e : ℤ) → FitsSigned w32 e
        → FitsIf x (table.local_rule (rule_site x) i e s)
        (step.instruction_step (step_site x) i e l)
    instruction_fits i e fits = elim (which a) [
      | in_plain_mode b ↦ plain_fits x wf s l b same changes n here i e fits
      | in_alternation busy b ↦ guard_fits busy b i e fits
      | among_starts starting ↦ start_fits starting i e fits
    ]

pub local_rules_fit_steps : LocalRulesFitSteps
local_rules_fit_steps x s l i e wf a same changes n here fits next =
    instruction_fits x wf s l a same changes n here i e fits next
