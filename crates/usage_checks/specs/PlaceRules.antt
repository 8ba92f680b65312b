-- The rules of places: what something is assigned to or received into, and channels.
use Rattle.std.specs.Prelude.{◌≡◌, ℕ, Bool, true, false, List, ◌⊎◌, if◌then◌else◌, Option, Some, None, Result, Ok, Err}
use Rattle.word_arithmetic.specs.Range.{Ends}
use Rattle.occam_parser.specs.Expressions.{Expression}
use Rattle.occam_parser.specs.Lines.{Place}
use Rattle.scalar_ranges.specs.declared.types.ExprType.{ExprType}
use Rattle.scalar_ranges.specs.declared.types.ExprType.TheVariants as types
use Rattle.scalar_ranges.specs.declared.types.TheConstants.{UNKNOWN_NAME, WRONG_TYPE}
use Rattle.scalar_ranges.specs.declared.bounds.TheConstants.{OUTSIDE}
use Rattle.scalar_ranges.specs.Entries.{Meaning, Scalar, Array, Channel, Channels, Entry, meaning_in}
use Rattle.scalar_ranges.specs.Types.{type_of_values, type_of}
use Rattle.scalar_ranges.specs.Bounds.{bound_of, range_found, is_subscript}
use Rattle.program_uses.specs.Constants.{is_same_type}
use Rattle.program_uses.specs.Places.{is_subscripted}
use Rattle.program_uses.specs.Mentions.{is_changeable, are_changeable}
use Rattle.usage_checks.specs.declared.wanting.Wanted.{Wanted}
use Rattle.usage_checks.specs.declared.wanting.Wanted.TheVariants as wanted
use Rattle.usage_checks.specs.Wanting.{BreaksWanted}

-- ---- what a name denotes, by whether a subscript follows it

-- O9 and O11: the type of a variable, or of an element of one
abbrev pub target_type : Option Meaning → Bool → Result ExprType ℕ
target_type None subscripted = Err UNKNOWN_NAME
target_type (Some (Scalar kind type range)) false =
    if is_changeable kind then Ok (type_of_values type) else Err WRONG_TYPE
target_type (Some (Array kind type size range)) true =
    if are_changeable kind then Ok (type_of_values type) else Err WRONG_TYPE
target_type (Some m) subscripted = Err WRONG_TYPE

-- O9 and O11: the type of what a channel carries
abbrev pub channel_type : Option Meaning → Bool → Result ExprType ℕ
channel_type None subscripted = Err UNKNOWN_NAME
channel_type (Some (Channel type)) false = Ok (type_of_values type)
channel_type (Some (Channels type size)) true = Ok (type_of_values type)
channel_type (Some m) subscripted = Err WRONG_TYPE

-- how many elements there are, where that is known
abbrev pub elements_in : Option Meaning → Option ℕ
elements_in (Some (Array kind type size range)) = size
elements_in (Some (Channels type size)) = size
elements_in m = None

abbrev pub target_at : List Entry → Place → Result ExprType ℕ
target_at es p = target_type (meaning_in p.name es) (is_subscripted p.subscript)

abbrev pub channel_at : List Entry → Place → Result ExprType ℕ
channel_at es p = channel_type (meaning_in p.name es) (is_subscripted p.subscript)

-- ---- rules

-- O17: a subscript of an array may be outside it
abbrev pub IsOutside : Option ℕ → Result ExprType ℕ → Result Ends ℕ → ℕ → Type 0
IsOutside (Some size) (Ok types.Int) (Ok r) n = (is_subscript size r ≡ false) × (n ≡ OUTSIDE)
IsOutside size type range n = ⊥

abbrev pub BreaksSubscript : Wanted → List Entry → Option ℕ → Option Expression → ℕ → Type 0
BreaksSubscript w es size None n = ⊥
BreaksSubscript w es size (Some e) n =
    BreaksWanted w es e n ⊎ IsOutside size (type_of es e) (range_found (bound_of es e)) n

-- What a place holds has no type, or its subscript breaks a rule.
abbrev pub BreaksPlace : Wanted → List Entry → Result ExprType ℕ → Place → ℕ → Type 0
BreaksPlace w es type p n = (type ≡ Err n) ⊎ BreaksSubscript w es (elements_in (meaning_in p.name es)) p.subscript n

abbrev pub BreaksTarget : List Entry → Place → ℕ → Type 0
BreaksTarget es p n = BreaksPlace (wanted.Value types.Int) es (target_at es p) p n

-- which element of an array of channels it is has to be known
abbrev pub BreaksChannel : List Entry → Place → ℕ → Type 0
BreaksChannel es p n = BreaksPlace (wanted.Constant types.Int) es (channel_at es p) p n

-- O11: two types that are known are not the same one
abbrev pub Differ : Result ExprType ℕ → Result ExprType ℕ → ℕ → Type 0
Differ (Ok s) (Ok t) n = (is_same_type s t ≡ false) × (n ≡ WRONG_TYPE)
Differ s t n = ⊥
