-- What becomes of a scope while names are declared in it, and what the declarations use.
use Rattle.std.specs.Prelude.{◌≡◌, true, List, [], ◌∷◌, ◌++◌}
use Rattle.occam_parser.specs.Lines.{Declaration}
use Rattle.scalar_ranges.specs.Entries.{Entry}
use Rattle.program_uses.specs.declared.uses.Use.{Use}
use Rattle.program_uses.specs.declared.uses.Uses.{Uses}
use Rattle.program_uses.specs.Actions.{uses_of_declaration}
use Rattle.program_uses.specs.Declaring.{add_declaration, add_outline}
use Rattle.program_uses.specs.InTurn.{in_turn}

-- A scope has some entries more: those that are wanted, if memory was enough.
pub record Enters (s : Uses) (before after wanted : List Entry) : Type 0 where
  pub entries : s.complete ≡ true → after ≡ wanted
  pub inner : List Entry
  pub kept : after ≡ inner ++ before

abbrev pub uses_of_declarations : List Entry → List Declaration → List Use
uses_of_declarations es [] = []
uses_of_declarations es (d ∷ ds) = uses_of_declaration es d ++ uses_of_declarations (add_outline d es) ds

abbrev pub add_declarations : List Declaration → List Entry → List Entry
add_declarations ds es = in_turn add_declaration ds es

abbrev pub add_outlines : List Declaration → List Entry → List Entry
add_outlines ds es = in_turn add_outline ds es
