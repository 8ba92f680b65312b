-- What places use: variables that are changed, and ends of channels.
use Rattle.std.specs.Prelude.{ℕ, ℤ, pos, nat_lt, Bool, true, false, List, [], ◌∷◌, ◌++◌, if◌then◌else◌, Option, Some}
use Rattle.std.specs.Prelude.{None}
use Rattle.occam_parser.specs.Expressions.{Expression}
use Rattle.occam_parser.specs.Lines.{Place}
use Rattle.scalar_ranges.specs.declared.types.ExprType.TheVariants as types
use Rattle.scalar_ranges.specs.Entries.{Meaning, Channel, Channels, Entry, meaning_in, number_in}
use Rattle.scalar_ranges.specs.Steps.{both_some}
use Rattle.program_uses.specs.declared.uses.Direction.{Direction}
use Rattle.program_uses.specs.declared.uses.Use.{Use}
use Rattle.program_uses.specs.declared.uses.Use.TheVariants as used
use Rattle.program_uses.specs.declared.places.Spot.{Spot}
use Rattle.program_uses.specs.Constants.{value_as}
use Rattle.program_uses.specs.Mentions.{reads_of, name_changes}

abbrev pub reads_if_any : List Entry → Option Expression → List Use
reads_if_any es None = []
reads_if_any es (Some e) = reads_of es e

-- what is assigned to a variable, or to an element of one, changes it
abbrev pub changes_of : List Entry → Place → List Use
changes_of es p = name_changes es p.name ++ reads_if_any es p.subscript

-- the element with this subscript, if an array of this size has it
abbrev pub element_in : Option ℕ → Option ℤ → Option ℕ
element_in (Some size) (Some (pos i)) = if nat_lt i size then Some i else None
element_in size i = None

abbrev pub is_subscripted : Option Expression → Bool
is_subscripted None = false
is_subscripted (Some e) = true

-- which element a subscript names of what a name denotes, if that is an array of channels; a channel is element 0
abbrev pub element_of : List Entry → Option Meaning → Option Expression → Option ℕ
element_of es (Some (Channel type)) None = Some 0
element_of es (Some (Channels type size)) (Some e) = element_in size (value_as es types.Int e)
element_of es m e = None

-- the channel that a place is, if it is one
abbrev pub spot_of : List Entry → Place → Option Spot
spot_of es p = both_some (number_in p.name es) (element_of es (meaning_in p.name es) p.subscript)
    (λ n i. Some (record { channel = n; element = i }))

abbrev pub uses_spot : Direction → Option Spot → List Use
uses_spot d None = []
uses_spot d (Some s) = used.Channel s.channel s.element d ∷ []

-- what is received from a channel, or sent to it, uses an end of it
abbrev pub ends_of : List Entry → Direction → Place → List Use
ends_of es d p = uses_spot d (spot_of es p) ++ reads_if_any es p.subscript
