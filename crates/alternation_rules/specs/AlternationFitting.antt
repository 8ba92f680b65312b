-- In a state that holds of a process, the rules of alternations and their steps fit each other.
use Rattle.std.specs.Prelude.{◌≡◌, ◌≤◌, length}
use Rattle.machine_state.specs.declared.op.Op.{Op}
use Rattle.machine_state.specs.declared.op.Op.TheVariants.{AlternationEnd}
use Rattle.machine_state.specs.LocalStep as step
use Rattle.machine_state.specs.Site.{Local}
use Rattle.states.specs.declared.known.Mode.TheVariants.{Disabling}
use Rattle.states.specs.State.{State}
use Rattle.rulings.specs.Meaning.{owed, IsWellFormed}
use Rattle.rulings.specs.Guarding.{HasSelected}
use Rattle.rulings.specs.Fitting.{After, Changes, Fits, HasNext, Situation, StandsAt, rule_site, step_site}
use Rattle.alternation_rules.specs.AlternationRules.{alternation_rule, altend_rule}

-- In a state that holds of a process, the rule and the step of each operation that goes on after itself fit.
abbrev pub AlternationFitsStep : Type 0
AlternationFitsStep =
    (x : Situation) (s : State) (l : Local) (op : Op) → IsWellFormed x.m → After x.m x.h x.mode x.act s l
    → s.context ≡ x.context → Changes x l.memory → owed s x.act ≤ x.owed → StandsAt x s l
    → HasNext x (alternation_rule (rule_site x) op s)
    → Fits x (alternation_rule (rule_site x) op s) (step.operation_step (step_site x) op l)

-- So do those of the end of an alternation, where the machine has selected the exit of one of the guards, once all are
-- disabled.
abbrev pub AlternationEndFitsStep : Type 0
AlternationEndFitsStep =
    (x : Situation) (s : State) (l : Local) → IsWellFormed x.m → After x.m x.h x.mode x.act s l
    → s.context ≡ x.context → Changes x l.memory → owed s x.act ≤ x.owed → StandsAt x s l
    → (s.mode ≡ Disabling (length s.guards) → HasSelected x.mode s.guards) → HasNext x (altend_rule (rule_site x) s)
    → Fits x (altend_rule (rule_site x) s) (step.operation_step (step_site x) AlternationEnd l)
