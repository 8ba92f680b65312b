-- In a state that holds of a process, the rules of `in` and `out` and their steps fit each other.
use Rattle.std.specs.Prelude.{◌≡◌, ◌≤◌}
use Rattle.machine_state.specs.declared.op.Op.{Op}
use Rattle.machine_state.specs.declared.op.Op.TheVariants.{Input, Output}
use Rattle.machine_state.specs.LocalStep as step
use Rattle.machine_state.specs.Site.{Local}
use Rattle.states.specs.State.{State}
use Rattle.rulings.specs.Rulings.{Ruling, Site}
use Rattle.rulings.specs.Meaning.{owed, IsWellFormed}
use Rattle.rulings.specs.Fitting.{After, Changes, Fits, HasNext, Situation, rule_site, step_site}
use Rattle.message_rules.specs.MessageRules.{in_rule, out_rule}

-- In a state that holds of a process, the rule of an operation and its step fit.
abbrev pub OperationFitsStep : Op → (Site → State → Ruling) → Type 0
OperationFitsStep op rule =
    (x : Situation) (s : State) (l : Local) → IsWellFormed x.m → After x.m x.h x.mode x.act s l
    → s.context ≡ x.context → Changes x l.memory → owed s x.act ≤ x.owed → HasNext x (rule (rule_site x) s)
    → Fits x (rule (rule_site x) s) (step.operation_step (step_site x) op l)

abbrev pub InputFitsStep : Type 0
InputFitsStep = OperationFitsStep Input in_rule

abbrev pub OutputFitsStep : Type 0
OutputFitsStep = OperationFitsStep Output out_rule
