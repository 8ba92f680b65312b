-- What is declared holds what its meaning says, if constants have their values and arrays their sizes.
use Rattle.std.specs.Prelude.{List, None, IsSomeAnd}
use Rattle.occam_parser.specs.Lines.{Declaration, Constants, Variables, Channels}
use Rattle.scalar_ranges.specs.Entries.{Meaning, Constant, Array, Entry}
use Rattle.scalar_ranges.specs.Environments.{Environment, Meets}
use Rattle.program_uses.specs.Declaring.{constant_meaning, variable_meaning, add_declaration}
use Rattle.program_meaning.specs.Storing.{declare}

-- a constant that has its value, an array that has its size, or anything else
abbrev pub IsKnown : Meaning → Type 0
IsKnown (Constant type None) = ⊥
IsKnown (Array kind type None range) = ⊥
IsKnown m = Unit {0}

abbrev pub IsKnownDeclaration : List Entry → Declaration → Type 0
IsKnownDeclaration es (Constants c) = IsKnown (constant_meaning es c.value_type c.value)
IsKnownDeclaration es (Variables n) = IsKnown (variable_meaning es n.value_type n.size)
IsKnownDeclaration es (Channels n) = Unit {0}

-- Where an environment meets a scope, the names are bound, and the environment meets the scope with them.
abbrev pub DeclarationsHold : Type 0
DeclarationsHold = (es : List Entry) (env : Environment) (d : Declaration) → Meets env es → IsKnownDeclaration es d
    → IsSomeAnd (declare d env) (λ inner. Meets inner (add_declaration d es))
