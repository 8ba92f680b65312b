-- Among the starts of a PAR an instruction that is neither a start nor an end breaks a rule, or pushes a word.
use Rattle.std.proofs.Common.{◌≡◌, ◌∙◌, sym, ap, refl, ℤ, Bool, true, false, cond, Option, Some}
use Rattle.std.proofs.Common.{None, nat_lt, ◌-◌, ◌≤◌, arith}
use Rattle.prefix_decoder.specs.declared.function.Fun.{Fun}
use Rattle.machine_state.specs.Instructions.{instruction_of}
use Rattle.machine_state.specs.declared.op.Op.{Op}
use Rattle.machine_state.specs.declared.op.Op.TheVariants as ops
use Rattle.machine_state.specs.declared.instruction.Instruction.{Instruction}
use Rattle.machine_state.specs.declared.instruction.Instruction.TheVariants as instructions
use Rattle.states.specs.declared.known.Known.{Known}
use Rattle.states.specs.declared.rule.Rule.TheVariants as rules
use Rattle.states.specs.State.{State}
use Rattle.rulings.specs.Rulings.{Ruling, Site, push, goes_on, pays, falls, breaks}
use Rattle.module_format.specs.Stack.{pushed}
use Rattle.alternation_rules.specs.ModesAsked.{IsEnabling, IsDisabling}
use Rattle.rulings.specs.Pointers.{near}
use Rattle.rulings.proofs.OtherModes.{Breaks, IsBusy, starting_is_busy}
use Rattle.rulings.proofs.Within.{is_starting}
use Rattle.rulings.proofs.Combining.{enough}
use Rattle.local_rules.specs.LocalRules.{local_rule}
use Rattle.local_rules.specs.WordRules.{known_constant}
use Rattle.local_rules.proofs.LocalOtherModes.{operation_breaks, instruction_breaks, mint_breaks, ldl_breaks}
use Rattle.local_rules.proofs.LocalOtherModes.{ldnlp_breaks}
use Rattle.call_rules.proofs.CallOtherModes.{call_breaks, return_breaks}
use Rattle.message_rules.specs.MessageRules.{message_rule}
use Rattle.message_rules.proofs.MessageOtherModes.{in_breaks, out_breaks}
use Rattle.alternation_rules.specs.AlternationRules.{alternation_rule}
use Rattle.alternation_rules.proofs.AlternationOtherModes.{modes_are_asked}
use Rattle.facts.specs.Rules.{operation_rule, instruction_rule, rule_of, rule, is_of_pars, has_pars}

-- a word is pushed and the instruction is paid, or a rule is broken
pub data Pushes (site : Site) (s : State) (r : Ruling) : Type 0 where
  it_pushes : (k : Known) → site.length ≤ s.number
      → r ≡ falls (record s { stack = pushed k s.stack; number = s.number - site.length }) → Pushes site s r
  it_breaks_one : Breaks r → Pushes site s r

module _ (site : Site) (s : State) (starting : is_starting s.mode ≡ true) where
  busy : IsBusy s.mode
  busy = starting_is_busy s.mode starting

  paid_pushes : (k : Known) (b : Bool) → nat_lt s.number site.length ≡ b → Pushes site s (cond b (breaks rules.Budget)
      (falls (record s { stack = pushed k s.stack; number = s.number - site.length })))
  paid_pushes k true e = it_breaks_one (rules.Budget, refl)
  paid_pushes k false e = it_pushes k
      (let paid = enough s.number site.length 0 s.number e (omega arith) in omega (arith, paid)) refl

  push_pushes : (k : Known) → Pushes site s (goes_on site (push k s))
  unfolding goes_on pays
  push_pushes k = paid_pushes k (nat_lt s.number site.length) refl

  near_pushes : (b : Bool) (k : Known) → Pushes site s (cond b (goes_on site (push k s)) (breaks rules.Pointer))
  near_pushes true k = push_pushes k
  near_pushes false k = it_breaks_one (rules.Pointer, refl)

  not_enabling : IsEnabling s.mode → ⊥
  not_enabling e = let no' = sym starting ∙ ap is_starting e in cc

  not_disabling : IsDisabling s.mode → ⊥
  not_disabling e = let no' = sym starting ∙ ap is_starting e.1 in cc

  operation_pushes : (op : Op) → is_of_pars op ≡ false → Pushes site s (operation_rule site op s)
  unfolding operation_rule message_rule alternation_rule
  operation_pushes ops.Return other = it_breaks_one (return_breaks site s busy)
  operation_pushes ops.Input other = it_breaks_one (in_breaks site s busy)
  operation_pushes ops.Output other = it_breaks_one (out_breaks site s busy)
  operation_pushes ops.Alternate other = it_breaks_one (modes_are_asked.alt site s busy)
  operation_pushes ops.EnableChannel other = it_breaks_one (modes_are_asked.enbc site s not_enabling)
  operation_pushes ops.EnableSkip other = it_breaks_one (modes_are_asked.enbs site s not_enabling)
  operation_pushes ops.AlternationWait other = it_breaks_one (modes_are_asked.altwt site s not_enabling)
  operation_pushes ops.DisableChannel other = it_breaks_one (modes_are_asked.disc site s not_disabling)
  operation_pushes ops.DisableSkip other = it_breaks_one (modes_are_asked.diss site s not_disabling)
  operation_pushes ops.AlternationEnd other = it_breaks_one (modes_are_asked.altend site s not_disabling)
  operation_pushes ops.StartProcess other = absurd (cc)
  operation_pushes ops.EndProcess other = absurd (cc)
  operation_pushes ops.MinimumInteger other = it_breaks_one (mint_breaks site s busy starting)
  operation_pushes op other = it_breaks_one (operation_breaks site s busy op refl)

  instruction_pushes : (i : Instruction) (e : ℤ) → has_pars (Some i) ≡ false
      → Pushes site s (instruction_rule site i e s)
  unfolding instruction_rule local_rule near
  instruction_pushes instructions.Call e other = it_breaks_one (call_breaks site s busy e)
  instruction_pushes (instructions.Operate op) e other = operation_pushes op other
  instruction_pushes instructions.LoadConstant e other = push_pushes (known_constant e)
  instruction_pushes instructions.LoadLocalPointer e other = near_pushes _ _
  instruction_pushes instructions.LoadLocal e other = it_breaks_one (ldl_breaks site s busy starting e)
  instruction_pushes instructions.LoadNonLocalPointer e other = it_breaks_one (ldnlp_breaks site s busy starting e)
  instruction_pushes i e other = it_breaks_one (instruction_breaks site s busy i e refl)

  option_pushes : (o : Option Instruction) (e : ℤ) → has_pars o ≡ false → Pushes site s (rule_of site o e s)
  unfolding rule_of
  option_pushes None e other = it_breaks_one (rules.Spelling, refl)
  option_pushes (Some i) e other = instruction_pushes i e other

  pub starts_let_push : (f : Fun) (e : ℤ) → has_pars (instruction_of f e) ≡ false → Pushes site s (rule site f e s)
  unfolding rule
  starts_let_push f e other = option_pushes (instruction_of f e) e other
