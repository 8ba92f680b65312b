-- In a state that holds of a process, the rules and the steps of all instructions fit each other.
use Rattle.std.specs.Prelude.{◌≡◌, ◌≤◌, ℤ, false, FitsSigned, length, Option}
use Rattle.std.specs.Int.{w32}
use Rattle.prefix_decoder.specs.declared.function.Fun.{Fun}
use Rattle.machine_state.specs.LocalStep as step
use Rattle.machine_state.specs.Site.{Local, Outcome}
use Rattle.module_format.specs.Keeping.{Keeps}
use Rattle.states.specs.State.{State}
use Rattle.facts.specs.Rules as table
use Rattle.facts.specs.Rules.{has_pars}
use Rattle.machine_state.specs.declared.instruction.Instruction.{Instruction}
use Rattle.machine_state.specs.Instructions.{instruction_of}
use Rattle.rulings.specs.Meaning.{owed, IsWellFormed}
use Rattle.states.specs.declared.known.Mode.TheVariants.{Disabling}
use Rattle.rulings.specs.Guarding.{HasSelected}
use Rattle.rulings.specs.Fitting.{After, Changes, Fits, HasNext, Situation, StandsAt, rule_site, step_site}
use Rattle.rulings.specs.Rulings.{Ruling}
use Rattle.start_laws.specs.Starting.{StartFits}
use Rattle.start_laws.specs.Ending.{EndFits}

-- The ruling and the outcome of an instruction fit each other, in this state and this memory: of a start, of the end of
-- a process, and of all else.
pub data FitsStep (x : Situation) (s : State) (l : Local) (i : Option Instruction) (r : Ruling) (o : Outcome) : Type 0
  where
    it_starts : StartFits x s l r o → FitsStep x s l i r o
    it_joins : EndFits x s l r o → FitsStep x s l i r o
    it_fits : has_pars i ≡ false → Fits x r o → FitsStep x s l i r o

-- In a state that holds of a process, each instruction's rule and step fit, where the machine has selected the exit of
-- one of the guards once all are disabled.
abbrev pub RulesFitSteps : Type 0
RulesFitSteps =
    (x : Situation) (s : State) (l : Local) (f : Fun) (e : ℤ) → IsWellFormed x.m → Keeps x.m
    → After x.m x.h x.mode x.act s l
    → s.context ≡ x.context → Changes x l.memory → owed s x.act ≤ x.owed → StandsAt x s l
    → (s.mode ≡ Disabling (length s.guards) → HasSelected x.mode s.guards)
    → FitsSigned w32 e → HasNext x (table.rule (rule_site x) f e s)
    → FitsStep x s l (instruction_of f e) (table.rule (rule_site x) f e s) (step.local_step (step_site x) f e l)
