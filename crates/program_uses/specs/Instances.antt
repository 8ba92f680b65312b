-- What an instance of a procedure uses.
use Rattle.std.specs.Prelude.{ℕ, Bool, true, false, List, [], ◌∷◌, ◌++◌, map, if◌then◌else◌, Option, Some, None}
use Rattle.std.specs.Prelude.{option_and_then, unwrap_or}
use Rattle.occam_parser.specs.Expressions.{Expression, Alone, Term, Named, Element}
use Rattle.occam_parser.specs.Lines.{Place}
use Rattle.scalar_ranges.specs.Entries.{Meaning, Channels, Entry, meaning_in, number_in}
use Rattle.program_uses.specs.declared.uses.End.{End}
use Rattle.program_uses.specs.declared.uses.Use.{Use}
use Rattle.program_uses.specs.declared.uses.Use.TheVariants as used
use Rattle.program_uses.specs.declared.places.Spot.{Spot}
use Rattle.program_uses.specs.declared.signature.Passing.{Passing}
use Rattle.program_uses.specs.declared.signature.Passing.TheVariants as passing
use Rattle.program_uses.specs.Mentions.{reads_of, of_variable, variable_in}
use Rattle.program_uses.specs.Places.{spot_of}
use Rattle.program_uses.specs.Signatures.{Parameter, passing_of}

-- the place that an operand or an expression is, if it is exactly that
abbrev pub place_of_term : Term → Option Place
place_of_term (Named name) = Some (record { name = name; subscript = None })
place_of_term (Element name e) = Some (record { name = name; subscript = Some e })
place_of_term t = None

abbrev pub place_in : Expression → Option Place
place_in (Alone t) = place_of_term t
place_in e = None

-- the name that a place is, if it has no subscript
abbrev pub whole_name : Place → Option (List ℕ)
whole_name p = elim p.subscript [ None ↦ Some p.name | Some e ↦ None ]

abbrev pub variable_at : List Entry → Place → Option ℕ
variable_at es p = option_and_then (λ name. variable_in name es) (whole_name p)

abbrev pub is_array : Option Meaning → Bool
is_array (Some (Channels type size)) = true
is_array m = false

-- the array of channels that a place is, if it is one
abbrev pub array_at : List Entry → Place → Option ℕ
array_at es p =
    option_and_then (λ name. if is_array (meaning_in name es) then number_in name es else None) (whole_name p)

-- ends of a channel, for those that a procedure uses of its parameter: of one element, or of a whole array
abbrev pub uses_ends : ℕ → Option ℕ → List End → List Use
uses_ends n element ends =
    map (λ d. used.Channel n (unwrap_or element d.element) d.direction) ends

abbrev pub of_spot : List End → Option Spot → List Use
of_spot ends None = []
of_spot ends (Some s) = uses_ends s.channel (Some s.element) ends

abbrev pub of_array : List End → Option ℕ → List Use
of_array ends None = []
of_array ends (Some n) = uses_ends n None ends

-- What is passed as a variable is changed, and of what is passed as a channel are used the ends that the procedure
-- uses; but of a whole array none where nothing is counted.
abbrev pub passes : Bool → List Entry → Passing → List End → Option Place → List Use
passes counted es passing.Value ends p = []
passes counted es passing.Variable ends p = of_variable used.Change (option_and_then (variable_at es) p)
passes counted es passing.Channel ends p = of_spot ends (option_and_then (spot_of es) p)
passes counted es passing.Channels ends p =
    if counted then of_array ends (option_and_then (array_at es) p) else []

-- An actual is read besides. One that has no parameter is read alone.
abbrev pub uses_of_actual : Bool → List Entry → Option Parameter → Expression → List Use
uses_of_actual counted es None e = reads_of es e
uses_of_actual counted es (Some p) e =
    reads_of es e ++ passes counted es (passing_of p.meaning) p.ends (place_in e)

abbrev pub uses_of_actuals : Bool → List Entry → List Parameter → List Expression → List Use
uses_of_actuals counted es ps [] = []
uses_of_actuals counted es [] (e ∷ actuals) = uses_of_actual counted es None e ++ uses_of_actuals counted es [] actuals
uses_of_actuals counted es (p ∷ ps) (e ∷ actuals) =
    uses_of_actual counted es (Some p) e ++ uses_of_actuals counted es ps actuals
