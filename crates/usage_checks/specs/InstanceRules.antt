-- The rules of instances: what is passed for each formal of a procedure.
use Rattle.std.specs.Prelude.{◌≡◌, ℕ, nat_eq, Bool, true, false, ◌&&◌, List, [], ◌∷◌, length, ◌⊎◌}
use Rattle.std.specs.Prelude.{Option, Some, None, Result, Ok, Err, option_map}
use Rattle.occam_parser.specs.declared.tree.ValueType.{ValueType}
use Rattle.occam_parser.specs.Expressions.{Expression}
use Rattle.occam_parser.specs.Lines.{Place}
use Rattle.scalar_ranges.specs.declared.scope.ScalarKind.{ScalarKind}
use Rattle.scalar_ranges.specs.declared.scope.ScalarKind.TheVariants as scalar
use Rattle.scalar_ranges.specs.declared.scope.ArrayKind.{ArrayKind}
use Rattle.scalar_ranges.specs.declared.scope.ArrayKind.TheVariants as array
use Rattle.scalar_ranges.specs.declared.types.ExprType.{ExprType}
use Rattle.scalar_ranges.specs.declared.types.ExprType.TheVariants as types
use Rattle.scalar_ranges.specs.declared.types.TheConstants.{UNKNOWN_NAME, WRONG_TYPE}
use Rattle.scalar_ranges.specs.Entries.{Meaning, Constant, Scalar, Array, Channel, Channels, Procedure, Entry}
use Rattle.scalar_ranges.specs.Entries.{meaning_in, number_in}
use Rattle.scalar_ranges.specs.Environments.{item_at}
use Rattle.scalar_ranges.specs.Types.{type_of_values, type_of}
use Rattle.program_uses.specs.declared.faults.TheConstants.{OTHER_ACTUAL, CHANNEL_USE}
use Rattle.program_uses.specs.declared.uses.End.{End}
use Rattle.program_uses.specs.Constants.{is_same_type, has_type}
use Rattle.program_uses.specs.Mentions.{are_changeable}
use Rattle.program_uses.specs.Signatures.{Parameter, parameters_in}
use Rattle.program_uses.specs.Instances.{place_in}
use Rattle.program_uses.specs.Places.{is_subscripted}
use Rattle.usage_checks.specs.declared.channel_rules.Position.{Position}
use Rattle.usage_checks.specs.declared.wanting.Wanted.{Wanted}
use Rattle.usage_checks.specs.declared.wanting.Wanted.TheVariants as wanted
use Rattle.usage_checks.specs.Wanting.{BreaksWanted}
use Rattle.usage_checks.specs.EachBroken.{BreaksEach}
use Rattle.usage_checks.specs.PlaceRules.{target_type, channel_type, elements_in, BreaksSubscript}
use Rattle.usage_checks.specs.ChannelRules.{is_inside, is_right_way}

-- ---- what a formal takes: by what a name denotes, and by whether a subscript follows it

-- the type of a single value, or of an element of an array
abbrev pub held_type : Meaning → Bool → Result ExprType ℕ
held_type (Constant type value) false = Ok (type_of_values type)
held_type (Scalar kind type range) false = Ok (type_of_values type)
held_type (Array kind type size range) true = Ok (type_of_values type)
held_type m subscripted = Err WRONG_TYPE

-- A variable is passed whole: an element of an array is not.
abbrev pub takes_scalar : ScalarKind → ExprType → Meaning → Bool → Bool
takes_scalar scalar.Value t m subscripted = has_type t (held_type m subscripted)
takes_scalar scalar.Reference t m false = has_type t (target_type (Some m) false)
takes_scalar kind t m subscripted = false

-- two sizes that are known are the same
abbrev pub agree : Option ℕ → Option ℕ → Bool
agree (Some m) (Some n) = nat_eq m n
agree m n = true

abbrev pub takes_kind : ArrayKind → ArrayKind → Bool
takes_kind array.Variable kind = are_changeable kind
takes_kind formal kind = true

abbrev pub takes_array : ArrayKind → ValueType → Option ℕ → Meaning → Bool → Bool
takes_array formal type size (Array kind other count range) false =
    takes_kind formal kind && (is_same_type (type_of_values type) (type_of_values other) && agree size count)
takes_array formal type size m subscripted = false

abbrev pub takes_channels : ValueType → Option ℕ → Meaning → Bool → Bool
takes_channels type size (Channels other count) false =
    is_same_type (type_of_values type) (type_of_values other) && agree size count
takes_channels type size m subscripted = false

abbrev pub takes : Meaning → Meaning → Bool → Bool
takes (Scalar kind type range) m subscripted = takes_scalar kind (type_of_values type) m subscripted
takes (Array kind type size range) m subscripted = takes_array kind type size m subscripted
takes (Channel type) m subscripted = has_type (type_of_values type) (channel_type (Some m) subscripted)
takes (Channels type size) m subscripted = takes_channels type size m subscripted
takes formal m subscripted = false

-- whether an expression of this type is taken that is no name or element
abbrev pub takes_value : Meaning → ExprType → Bool
takes_value (Scalar scalar.Value type range) t = is_same_type t (type_of_values type)
takes_value formal t = false

-- ---- actuals, of which some may have no formal

-- O9, and O13: what a place is, is not taken
abbrev pub IsNotTaken : Option Meaning → Option Meaning → Bool → ℕ → Type 0
IsNotTaken formal None subscripted n = n ≡ UNKNOWN_NAME
IsNotTaken None (Some m) subscripted n = ⊥
IsNotTaken (Some formal) (Some m) subscripted n = (takes formal m subscripted ≡ false) × (n ≡ OTHER_ACTUAL)

-- which element of an array of channels it is has to be known
abbrev pub subscript_for : Option Meaning → Wanted
subscript_for (Some (Channel type)) = wanted.Constant types.Int
subscript_for formal = wanted.Value types.Int

abbrev pub BreaksWhole : List Entry → Option Meaning → Place → ℕ → Type 0
BreaksWhole es formal p n =
    IsNotTaken formal (meaning_in p.name es) (is_subscripted p.subscript) n
    ⊎ BreaksSubscript (subscript_for formal) es (elements_in (meaning_in p.name es)) p.subscript n

-- O13: a value that is not taken
abbrev pub IsNoValue : Option Meaning → Result ExprType ℕ → ℕ → Type 0
IsNoValue (Some formal) (Ok t) n = (takes_value formal t ≡ false) × (n ≡ OTHER_ACTUAL)
IsNoValue formal type n = ⊥

abbrev pub BreaksExpression : List Entry → Option Meaning → Expression → ℕ → Type 0
BreaksExpression es formal e n = BreaksWanted wanted.Anything es e n ⊎ IsNoValue formal (type_of es e) n

-- What is exactly a place is passed whole, and all else as a value.
abbrev pub BreaksActual : List Entry → Option Meaning → Expression → Option Place → ℕ → Type 0
BreaksActual es formal e None n = BreaksExpression es formal e n
BreaksActual es formal e (Some p) n = BreaksWhole es formal p n

-- ---- channels that are passed

abbrev pub is_channel : Option Meaning → Bool
is_channel (Some (Channel type)) = true
is_channel (Some (Channels type size)) = true
is_channel m = false

abbrev pub are_right_ways : Position → List ℕ → ℕ → List End → Bool
are_right_ways p name number [] = true
are_right_ways p name number (d ∷ ds) =
    is_right_way p name number d.direction && are_right_ways p name number ds

-- O15: a channel is used where it is passed, in the directions in which the procedure uses its formal
abbrev pub IsMispassed : Position → Parameter → Option Meaning → List ℕ → Option ℕ → ℕ → Type 0
IsMispassed p q m name None n = ⊥
IsMispassed p q m name (Some number) n =
    (is_channel (Some q.meaning) ≡ true) × (is_channel m ≡ true)
    × ((is_inside p number && are_right_ways p name number q.ends) ≡ false) × (n ≡ CHANNEL_USE)

abbrev pub BreaksPassing : Position → List Entry → Option Parameter → Option Place → ℕ → Type 0
BreaksPassing p es (Some q) (Some place) n =
    IsMispassed p q (meaning_in place.name es) place.name (number_in place.name es) n
BreaksPassing p es q place n = ⊥

-- ---- an instance

abbrev pub BreaksOne : Position → List Entry → Option Parameter → Expression → ℕ → Type 0
BreaksOne p es q e n =
    BreaksActual es (option_map (λ q. q.meaning) q) e (place_in e) n ⊎ BreaksPassing p es q (place_in e) n

-- each with the parameter at its place
abbrev pub BreaksActuals : Position → List Entry → List Parameter → List Expression → ℕ → Type 0
BreaksActuals p es qs = BreaksEach (λ i. BreaksOne p es (item_at i qs)) 0

-- O9 and O11: what is called is no procedure. O13: it has another number of formals.
abbrev pub IsNotCalled : List (List Parameter) → Option Meaning → ℕ → ℕ → Type 0
IsNotCalled signatures None count n = n ≡ UNKNOWN_NAME
IsNotCalled signatures (Some (Procedure number)) count n =
    (nat_eq (length (parameters_in signatures (Some (Procedure number)))) count ≡ false) × (n ≡ OTHER_ACTUAL)
IsNotCalled signatures (Some m) count n = n ≡ WRONG_TYPE

abbrev pub BreaksInstance : Position → List (List Parameter) → List Entry → List ℕ → List Expression → ℕ → Type 0
BreaksInstance p signatures es name actuals n =
    IsNotCalled signatures (meaning_in name es) (length actuals) n
    ⊎ BreaksActuals p es (parameters_in signatures (meaning_in name es)) actuals n
