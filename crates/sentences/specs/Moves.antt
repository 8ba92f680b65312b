-- Bytes that move takes to the region of a parameter.
use Rattle.std.specs.Prelude.{◌&&◌, not, Bool, true, false, if◌then◌else◌, ℤ, pos, int_le, [], codes, Option, Some}
use Rattle.std.specs.Prelude.{None}
use Rattle.module_format.specs.Rows.{Fact}
use Rattle.module_format.specs.declared.fact.Fact.TheVariants.{Pointer}
use Rattle.module_format.specs.declared.fact.Region.{Region}
use Rattle.module_format.specs.declared.fact.Region.TheVariants as regions
use Rattle.machine_state.specs.declared.op.TheConstants.{MOST_MOVED}
use Rattle.states.specs.State.{State}
use Rattle.rulings.specs.declared.pointers.Pointed.{Pointed}
use Rattle.rulings.specs.Pointers.{are_near}
use Rattle.rulings.specs.Filling.{are_numbers}
use Rattle.fact_texts.specs.Texts.{Text, is_one}
use Rattle.found_parts.specs.Messages.{constant_of}

-- where an exact pointer leads that is near
abbrev pub place_of : Fact → Option Pointed
place_of (Pointer region lo hi step) =
    if are_near lo hi && is_one lo hi then Some (record { region = region; lo = lo; hi = hi; step = step }) else None
place_of fact = None

-- it is the region of a parameter
abbrev pub is_parameter : Region → Bool
is_parameter (regions.Parameter j) = true
is_parameter region = false

-- it leads into the region of a parameter
abbrev pub is_in_parameter : Option Pointed → Bool
is_in_parameter None = false
is_in_parameter (Some to) = is_parameter to.region

-- this number of bytes is moved, one at least
abbrev pub is_moved : ℤ → Bool
is_moved count = int_le (pos 1) count && int_le count (pos MOST_MOVED)

-- one of the bytes from a place on may be part of no number
abbrev pub are_mixed : State → ℤ → Option Pointed → Bool
are_mixed s count None = false
are_mixed s count (Some from) = is_moved count && not (are_numbers s from count)

-- the same of a number of bytes that is known
abbrev pub has_mixed : State → Option ℤ → Option Pointed → Bool
has_mixed s None from = false
has_mixed s (Some count) from = are_mixed s count from

-- A bytes from C on go into the region of a parameter, and one of them may be part of no number
abbrev pub brings_mixed : State → Bool
brings_mixed s =
    is_in_parameter (place_of s.stack.b.fact) && has_mixed s (constant_of s.stack.a.fact) (place_of s.stack.c.fact)

-- what is said of such bytes
unfoldable pub mixed_words : Bool → Text
mixed_words is_mixed =
    if is_mixed then codes "; a parameter takes numbers alone, and a byte at C may be part of none" else []
