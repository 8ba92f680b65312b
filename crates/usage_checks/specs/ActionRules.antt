-- The rules of actions and guards.
use Rattle.std.specs.Prelude.{ℕ, List, ◌⊎◌}
use Rattle.occam_parser.specs.Lines.{Action, Skip, Stop, Assign, Input, Output, Instance, Guard, Receives, Skips}
use Rattle.scalar_ranges.specs.Entries.{Entry}
use Rattle.program_uses.specs.Signatures.{Parameter}
use Rattle.usage_checks.specs.declared.channel_rules.Position.{Position}
use Rattle.usage_checks.specs.Following.{where_holds}
use Rattle.usage_checks.specs.LineRules.{BreaksAssignment, BreaksInput, BreaksOutput, BreaksCondition}
use Rattle.usage_checks.specs.LineRules.{BreaksConditionIfAny}
use Rattle.usage_checks.specs.InstanceRules.{BreaksInstance}

abbrev pub BreaksAction : Position → List (List Parameter) → List Entry → Action → ℕ → Type 0
BreaksAction p signatures es Skip n = ⊥
BreaksAction p signatures es Stop n = ⊥
BreaksAction p signatures es (Assign target value) n = BreaksAssignment es target value n
BreaksAction p signatures es (Input channel target) n = BreaksInput p es channel target n
BreaksAction p signatures es (Output channel value) n = BreaksOutput p es channel value n
BreaksAction p signatures es (Instance name actuals) n = BreaksInstance p signatures es name actuals n

-- The input of a guard is checked where its condition holds.
abbrev pub BreaksGuard : Position → List Entry → Guard → ℕ → Type 0
BreaksGuard p es (Receives condition channel target) n =
    BreaksConditionIfAny es condition n ⊎ BreaksInput p (where_holds condition es) channel target n
BreaksGuard p es (Skips e) n = BreaksCondition es e n
