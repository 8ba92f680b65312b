-- What a refusal reports.
use Rattle.std.specs.Prelude.{◌≡◌, ◌⊎◌}
use Rattle.module_format.specs.Contents.{Contents}
use Rattle.states.specs.declared.rule.Rule.{Rule}
use Rattle.states.specs.declared.rule.TheConstants.{MEMORY}
use Rattle.states.specs.Numbers.{number_of}
use Rattle.certified_worlds.specs.Certified.{IsRefused}
use Rattle.verifier.specs.declared.Refusal.{Refusal}

-- no rule is reported by this number
abbrev pub out_of_memory : Refusal
out_of_memory = record { number = MEMORY; offset = 0 }

-- What a refusal reports: the rule for which the module is refused, by its number, and where; or that memory ran out.
abbrev pub Reports : Contents → Refusal → Type 0
Reports m refusal =
    (refusal ≡ out_of_memory) ⊎ ((rule : Rule) × (refusal.number ≡ number_of rule) × IsRefused m rule refusal.offset)
