-- In a state that holds of a process, the rule and the step of an instruction of this family fit each other.
use Rattle.std.specs.Prelude.{◌≡◌, ◌≤◌, ℤ, FitsSigned}
use Rattle.std.specs.Int.{w32}
use Rattle.machine_state.specs.declared.instruction.Instruction.{Instruction}
use Rattle.machine_state.specs.LocalStep as step
use Rattle.machine_state.specs.Site.{Local}
use Rattle.states.specs.State.{State}
use Rattle.rulings.specs.Meaning.{owed, IsWellFormed}
use Rattle.rulings.specs.Fitting.{After, Changes, Fits, HasNext, Situation, StandsAt, rule_site}
use Rattle.rulings.specs.Fitting.{step_site}
use Rattle.local_rules.specs.LocalRules.{local_rule}

-- In a state that holds of a process, each instruction's rule and step fit, where this family has its rule.
abbrev pub LocalRulesFitSteps : Type 0
LocalRulesFitSteps =
    (x : Situation) (s : State) (l : Local) (i : Instruction) (e : ℤ) → IsWellFormed x.m
    → After x.m x.h x.mode x.act s l
    → s.context ≡ x.context → Changes x l.memory → owed s x.act ≤ x.owed → StandsAt x s l
    → FitsSigned w32 e → HasNext x (local_rule (rule_site x) i e s)
    → Fits x (local_rule (rule_site x) i e s) (step.instruction_step (step_site x) i e l)
