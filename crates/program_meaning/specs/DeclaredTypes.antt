-- What is declared holds numbers of its type.
use Rattle.std.specs.Prelude.{◌≡◌, true, List, IfSome}
use Rattle.occam_parser.specs.Lines.{Declaration}
use Rattle.occam_parser.specs.Words.{declaration_has_words}
use Rattle.scalar_ranges.specs.Entries.{Entry}
use Rattle.scalar_ranges.specs.Environments.{Environment, Meets}
use Rattle.program_uses.specs.Declaring.{add_declaration}
use Rattle.program_meaning.specs.Storing.{declare}
use Rattle.program_meaning.specs.TypedValues.{AreTyped}
use Rattle.program_meaning.specs.Declarations.{IsKnownDeclaration}

-- Names that hold numbers of their types hold such numbers after a declaration.
abbrev pub DeclarationsTyped : Type 0
DeclarationsTyped = (es : List Entry) (env : Environment) (d : Declaration) → Meets env es → AreTyped env es
    → IsKnownDeclaration es d → declaration_has_words d ≡ true
    → IfSome (declare d env) (λ inner. AreTyped inner (add_declaration d es))
