-- The numbers by which rules are reported.
use Rattle.std.specs.Prelude.{ℕ, Result, Ok, Err}
use Rattle.states.specs.declared.rule.Rule.{Rule}
use Rattle.states.specs.declared.rule.Rule.TheVariants as rules
use Rattle.states.specs.declared.rule.RuleFault.{RuleFault}
use Rattle.states.specs.declared.rule.TheConstants.{MEMORY}

abbrev pub number_of : Rule → ℕ
number_of rules.Spelling = 1
number_of rules.InstructionStart = 2
number_of rules.Flow = 3
number_of rules.UnknownRegister = 4
number_of rules.Number = 5
number_of rules.Pointer = 6
number_of rules.RegionsMeet = 7
number_of rules.Channel = 8
number_of rules.MessageLength = 9
number_of rules.Alternation = 10
number_of rules.Forward = 11
number_of rules.Par = 12
number_of rules.Call = 13
number_of rules.OwnWord = 14
number_of rules.Budget = 15
number_of rules.Label = 16

-- a broken rule, as it is reported
abbrev pub fault_of : Rule → RuleFault
fault_of rule = record { number = number_of rule }

-- no rule has this number
abbrev pub out_of_memory : RuleFault
out_of_memory = record { number = MEMORY }

-- a result, as it is reported
abbrev pub reported : {A : Type 0} → Result A Rule → Result A RuleFault
reported (Ok x) = Ok x
reported (Err rule) = Err (fault_of rule)
