-- The rule of an instruction and its step fit each other, by the law of its family: if the rule is not broken, the step
-- is no fault, and what the rule says of the state after it holds.
use Rattle.std.proofs.Common.{◌≡◌, ◌≤◌, ℤ, false, refl, FitsSigned, length, Option, Some, None}
use Rattle.std.specs.Int.{w32}
use Rattle.prefix_decoder.specs.declared.function.Fun.{Fun}
use Rattle.machine_state.specs.declared.op.Op.{Op}
use Rattle.machine_state.specs.declared.op.Op.TheVariants as operations
use Rattle.machine_state.specs.declared.instruction.Instruction.{Instruction}
use Rattle.machine_state.specs.declared.instruction.Instruction.TheVariants as instructions
use Rattle.machine_state.specs.Instructions.{instruction_of}
use Rattle.machine_state.specs.LocalStep as step
use Rattle.machine_state.specs.Site.{Local, Outcome}
use Rattle.module_format.specs.Keeping.{Keeps}
use Rattle.states.specs.State.{State}
use Rattle.facts.specs.Rules as table
use Rattle.facts.specs.Rules.{has_pars}
use Rattle.rulings.specs.Meaning.{owed, IsWellFormed}
use Rattle.states.specs.declared.known.Mode.TheVariants.{Disabling}
use Rattle.rulings.specs.Guarding.{HasSelected}
use Rattle.rulings.specs.Fitting.{Changes, After, HasNext, Situation, StandsAt, rule_site, step_site, it_breaks}
use Rattle.rulings.specs.Rulings.{Ruling}
use Rattle.facts.specs.RulesFit.{RulesFitSteps, FitsStep, it_starts, it_joins, it_fits}
use Rattle.start_laws.proofs.StartsFit.{start_fits_step}
use Rattle.start_laws.proofs.EndsFit.{end_fits_step}
use Rattle.rulings.proofs.Combining.{FitsIf}
use Rattle.local_rules.specs.LocalRules.{local_rule}
use Rattle.local_rules.proofs.LocalFits.{local_rules_fit_steps}
use Rattle.call_rules.proofs.CallFits.{call_fits_step, return_fits_step}
use Rattle.message_rules.specs.MessageRules.{message_rule}
use Rattle.message_rules.proofs.MessageFits.{input_fits_step, output_fits_step}
use Rattle.alternation_rules.proofs.AlternationFits.{alternation_fits_step, alternation_end_fits_step}

-- they fit, if what falls through has code after it
abbrev FitsStepIf : Situation → State → Local → Option Instruction → Ruling → Outcome → Type 0
FitsStepIf x s l i r o = HasNext x r → FitsStep x s l i r o

module _ (x : Situation) (wf : IsWellFormed x.m) (keeps : Keeps x.m) (s : State) (l : Local)
    (a : After x.m x.h x.mode x.act s l) (same : s.context ≡ x.context) (changes : Changes x l.memory)
    (n : owed s x.act ≤ x.owed) (here : StandsAt x s l)
    (selected : s.mode ≡ Disabling (length s.guards) → HasSelected x.mode s.guards) where
  other : {i : Option Instruction} {r : Ruling} {o : Outcome} → has_pars i ≡ false → FitsIf x r o
      → FitsStepIf x s l i r o
  other none fits next = it_fits none (fits next)

  operation_fits : (op : Op) (e : ℤ) → FitsSigned w32 e → FitsStepIf x s l (Some (instructions.Operate op))
      (table.operation_rule (rule_site x) op s) (step.operation_step (step_site x) op l)
  unfolding table.operation_rule local_rule message_rule step.instruction_step
  operation_fits operations.Return e fits = other refl (return_fits_step x s l wf a same changes n)
  operation_fits operations.Input e fits = other refl (input_fits_step x s l wf a same changes n)
  operation_fits operations.Output e fits = other refl (output_fits_step x s l wf a same changes n)
  operation_fits operations.Alternate e fits =
      other refl (alternation_fits_step x s l operations.Alternate wf a same changes n here)
  operation_fits operations.EnableChannel e fits =
      other refl (alternation_fits_step x s l operations.EnableChannel wf a same changes n here)
  operation_fits operations.EnableSkip e fits =
      other refl (alternation_fits_step x s l operations.EnableSkip wf a same changes n here)
  operation_fits operations.AlternationWait e fits =
      other refl (alternation_fits_step x s l operations.AlternationWait wf a same changes n here)
  operation_fits operations.DisableChannel e fits =
      other refl (alternation_fits_step x s l operations.DisableChannel wf a same changes n here)
  operation_fits operations.DisableSkip e fits =
      other refl (alternation_fits_step x s l operations.DisableSkip wf a same changes n here)
  operation_fits operations.AlternationEnd e fits =
      other refl (alternation_end_fits_step x s l wf a same changes n here selected)
  operation_fits operations.StartProcess e fits = λ next. it_starts (start_fits_step x s l wf keeps a next)
  operation_fits operations.EndProcess e fits = λ next. it_joins (end_fits_step x s l a)
  operation_fits op e fits =
      other refl (local_rules_fit_steps x s l (instructions.Operate op) e wf a same changes n here fits)

  instruction_fits : (i : Instruction) (e : ℤ) → FitsSigned w32 e
      → FitsStepIf x s l (Some i) (table.instruction_rule (rule_site x) i e s)
      (step.instruction_step (step_site x) i e l)
  unfolding table.instruction_rule step.instruction_step
  instruction_fits instructions.Call e fits = other refl (call_fits_step x s l e wf a same changes n)
  instruction_fits (instructions.Operate op) e fits = operation_fits op e fits
  instruction_fits i e fits = other refl (local_rules_fit_steps x s l i e wf a same changes n here fits)

  option_fits : (i : Option Instruction) (e : ℤ) → FitsSigned w32 e
      → FitsStepIf x s l i (table.rule_of (rule_site x) i e s) (step.step_of (step_site x) i e l)
  unfolding table.rule_of step.step_of
  option_fits None e fits = λ next. it_fits refl it_breaks
  option_fits (Some i) e fits = instruction_fits i e fits

  pub function_fits : (f : Fun) (e : ℤ) → FitsSigned w32 e
      → FitsStepIf x s l (instruction_of f e) (table.rule (rule_site x) f e s)
      (step.local_step (step_site x) f e l)
  unfolding table.rule step.local_step
  function_fits f e fits = option_fits (instruction_of f e) e fits

pub rules_fit_steps : RulesFitSteps
rules_fit_steps x s l f e wf keeps a same changes n here selected fits next =
    function_fits x wf keeps s l a same changes n here selected f e fits next
