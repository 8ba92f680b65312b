-- In a state that holds of a process, the rules and the steps of a call and a return fit each other.
use Rattle.std.specs.Prelude.{◌≡◌, ◌≤◌, ℤ}
use Rattle.machine_state.specs.declared.op.Op.TheVariants.{Return}
use Rattle.machine_state.specs.declared.instruction.Instruction.TheVariants.{Call}
use Rattle.machine_state.specs.LocalStep as step
use Rattle.machine_state.specs.Site.{Local}
use Rattle.states.specs.State.{State}
use Rattle.rulings.specs.Meaning.{owed, IsWellFormed}
use Rattle.rulings.specs.Fitting.{After, Changes, Fits, HasNext, Situation, rule_site, step_site}
use Rattle.call_rules.specs.CallRules.{call_rule, return_rule}

-- In a state that holds of a process, the rule of a call and its step fit.
abbrev pub CallFitsStep : Type 0
CallFitsStep =
    (x : Situation) (s : State) (l : Local) (e : ℤ) → IsWellFormed x.m → After x.m x.h x.mode x.act s l
    → s.context ≡ x.context → Changes x l.memory → owed s x.act ≤ x.owed
    → HasNext x (call_rule (rule_site x) e s)
    → Fits x (call_rule (rule_site x) e s) (step.instruction_step (step_site x) Call e l)

-- The same of a return.
abbrev pub ReturnFitsStep : Type 0
ReturnFitsStep =
    (x : Situation) (s : State) (l : Local) → IsWellFormed x.m → After x.m x.h x.mode x.act s l
    → s.context ≡ x.context → Changes x l.memory → owed s x.act ≤ x.owed
    → HasNext x (return_rule (rule_site x) s)
    → Fits x (return_rule (rule_site x) s) (step.operation_step (step_site x) Return l)
