-- The rules of formals, and what is known of them by their head.
use Rattle.std.specs.Prelude.{ℕ, List, []}
use Rattle.occam_parser.specs.Lines.{Formal}
use Rattle.scalar_ranges.specs.Entries.{Entry}
use Rattle.program_uses.specs.Declaring.{add, formal_meaning}
use Rattle.program_uses.specs.Signatures.{Parameter}
use Rattle.program_uses.specs.declared.telling.UsageFault.{UsageFault}
use Rattle.usage_checks.specs.DeclarationRules.{BreaksSizeIfAny}
use Rattle.usage_checks.specs.EachBroken.{BreaksEach}
use Rattle.usage_checks.specs.BrokenInTurn.{BreaksInTurn}
use Rattle.usage_checks.specs.NameRules.{BreaksName}

-- No size of a formal sees another formal.
abbrev pub BreakSizes : List Entry → List Formal → ℕ → Type 0
BreakSizes es fs = BreaksEach (λ i f. BreaksSizeIfAny es f.size) 0 fs

-- what is known of a formal by its head
abbrev pub parameter_for : List Entry → Formal → Parameter
parameter_for es f = record { meaning = formal_meaning es f; ends = [] }

-- each name is checked after those before it
abbrev pub BreakFormals : (first line : ℕ) → List Entry → List Formal → List Entry → UsageFault → Type 0
BreakFormals first line outer =
    BreaksInTurn (λ f. add f.name (formal_meaning outer f)) (λ f. BreaksName first line f.name)
