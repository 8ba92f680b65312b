-- Why a source has no module, where it is a program that breaks no rule.
use Rattle.std.proofs.Common.{◌≡◌, ℕ, List, refl}
use Rattle.module_builder.specs.declared.fault.GenFault.{GenFault}
use Rattle.module_builder.specs.declared.fault.GenFault.TheVariants as generation
use Rattle.occam_layout.specs.declared.token.Line.{Line}
use Rattle.occam_parser.specs.Blocks.{rows_of, IsProgram, ProgramItem}
use Rattle.program_meaning.specs.Sequential.{IsSequentialProgram}
use Rattle.usage_checks.specs.ItemRules.{BreaksNoRule}
use Rattle.compiler.specs.Compiled.{IsTooLarge, IsUngenerated, HasLines, IsWithoutModule}

ungenerated : (items : List ProgramItem) (f : GenFault)
    → (f ≡ generation.Limit → IsSequentialProgram items → IsTooLarge items)
    → (f ≡ generation.Invalid → IsSequentialProgram items → ⊥) → IsUngenerated f items
ungenerated items generation.Limit large never = large refl
ungenerated items generation.Memory large never = tt
ungenerated items generation.Invalid large never = never refl

pub without_module : (source : List ℕ) (lines : List Line) (items : List ProgramItem) (f : GenFault)
    → HasLines source lines → IsProgram (rows_of lines) items → BreaksNoRule items
    → (f ≡ generation.Limit → IsSequentialProgram items → IsTooLarge items)
    → (f ≡ generation.Invalid → IsSequentialProgram items → ⊥) → IsWithoutModule source f
without_module source lines items f has program unbroken large never = record {
  items = items;
  program = record { lines = lines; has_lines = has; program = program };
  holds = (unbroken, ungenerated items f large never);
}
