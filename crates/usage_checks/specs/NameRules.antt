-- The rules of names that are declared, and what is known after their declarations.
use Rattle.std.specs.Prelude.{◌≡◌, ℕ, nat_le, Bool, true, false, List, [], ◌∷◌, ◌⊎◌, Option, Some, None}
use Rattle.occam_parser.specs.OneOrMore.{as_list}
use Rattle.occam_parser.specs.Lines.{Declaration, Constants, Variables, Channels}
use Rattle.occam_parser.specs.Blocks.{declaration_line}
use Rattle.scalar_ranges.specs.Entries.{Meaning, Entry, number_in}
use Rattle.scalar_ranges.specs.Moves.{Known}
use Rattle.program_uses.specs.declared.faults.TheConstants.{DECLARED_TWICE}
use Rattle.program_uses.specs.Declaring.{add, constant_meaning, variable_meaning, channel_meaning, add_declaration}
use Rattle.program_uses.specs.declared.telling.UsageFault.{UsageFault}
use Rattle.usage_checks.specs.DeclarationRules.{BreaksDeclaration}
use Rattle.usage_checks.specs.BrokenInTurn.{BreaksInTurn}
use Rattle.program_uses.specs.Telling.{At}

-- whether a declaration is of the innermost scope, whose first one has this number
abbrev pub is_of_scope : ℕ → Option ℕ → Bool
is_of_scope first None = false
is_of_scope first (Some number) = nat_le first number

-- O10
abbrev pub IsTwice : ℕ → List Entry → List ℕ → ℕ → Type 0
IsTwice first es name n = (is_of_scope first (number_in name es) ≡ true) × (n ≡ DECLARED_TWICE)

-- names of one line, which mean the same: each is checked after those before it
abbrev pub BreaksName : ℕ → ℕ → List ℕ → List Entry → UsageFault → Type 0
BreaksName first line name es f = At line (IsTwice first es name) f

abbrev pub BreakNames : ℕ → ℕ → Meaning → List (List ℕ) → List Entry → UsageFault → Type 0
BreakNames first line m = BreaksInTurn (λ name. add name m) (BreaksName first line)

abbrev pub names_in : Declaration → List (List ℕ)
names_in (Constants c) = c.name ∷ []
names_in (Variables n) = as_list n.names
names_in (Channels n) = as_list n.names

abbrev pub declared_meaning : List Entry → Declaration → Meaning
declared_meaning es (Constants c) = constant_meaning es c.value_type c.value
declared_meaning es (Variables n) = variable_meaning es n.value_type n.size
declared_meaning es (Channels n) = channel_meaning es n.value_type n.size

abbrev pub BreaksDeclared : ℕ → Declaration → List Entry → UsageFault → Type 0
BreaksDeclared first d es f =
    At (declaration_line d) (BreaksDeclaration es d) f
    ⊎ BreakNames first (declaration_line d) (declared_meaning es d) (names_in d) es f

abbrev pub BreakDeclarations : ℕ → List Declaration → List Entry → UsageFault → Type 0
BreakDeclarations first = BreaksInTurn add_declaration (BreaksDeclared first)

abbrev pub with_entries : (List Entry → List Entry) → Known → Known
with_entries f k = record { entries = f k.entries; blocks = k.blocks }
