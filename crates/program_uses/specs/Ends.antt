-- The ends of channels among uses, in rising order.
use Rattle.std.specs.Prelude.{ℕ, zero, suc, ◌-◌, nat_eq, nat_lt, nat_le, Bool, ◌&&◌, if◌then◌else◌, fold, List, []}
use Rattle.std.specs.Prelude.{◌∷◌, ◌++◌}
use Rattle.std.specs.BTreeSet.{insert_key}
use Rattle.std.specs.Ordering.{nat_cmp, ordering_then}
use Rattle.std.specs.declared.cmp.Ordering.{Ordering}
use Rattle.program_uses.specs.declared.ends.ChannelEnd.{ChannelEnd}
use Rattle.program_uses.specs.declared.uses.Direction.{Direction}
use Rattle.program_uses.specs.declared.uses.Direction.TheVariants as direction
use Rattle.program_uses.specs.declared.uses.End.{End}
use Rattle.program_uses.specs.declared.uses.Use.{Use}
use Rattle.program_uses.specs.declared.uses.Use.TheVariants as used
use Rattle.program_uses.specs.Signatures.{Parameter}

-- an input is before an output
abbrev pub way_place : Direction → ℕ
way_place direction.Input = 0
way_place direction.Output = 1

-- by channel, then by element, and then by direction
abbrev pub end_order : ChannelEnd → ChannelEnd → Ordering
end_order d e =
    ordering_then (nat_cmp d.channel e.channel)
    (ordering_then (nat_cmp d.end.element e.end.element)
    (nat_cmp (way_place d.end.direction) (way_place e.end.direction)))

abbrev pub with_use : List ChannelEnd → Use → List ChannelEnd
with_use ds (used.Channel n i d) =
    insert_key end_order ds (record { channel = n; end = record { element = i; direction = d } })
with_use ds (used.Read n) = ds
with_use ds (used.Change n) = ds

-- each end once, in rising order
abbrev pub sorted_ends : List Use → List ChannelEnd
sorted_ends us = fold with_use [] us

-- those of this number of channels, from this one on
abbrev pub is_parameter : ℕ → ℕ → ℕ → Bool
is_parameter first count n = nat_le first n && nat_lt (n - first) count

abbrev pub of_parameters : ℕ → ℕ → List Use → List Use
of_parameters first count [] = []
of_parameters first count (used.Read n ∷ us) = of_parameters first count us
of_parameters first count (used.Change n ∷ us) = of_parameters first count us
of_parameters first count (used.Channel n i d ∷ us) =
    if is_parameter first count n then used.Channel n i d ∷ of_parameters first count us
    else of_parameters first count us

-- those of one channel
abbrev pub ends_at : ℕ → List ChannelEnd → List End
ends_at number [] = []
ends_at number (d ∷ ds) = if nat_eq d.channel number then d.end ∷ ends_at number ds else ends_at number ds

-- one end more of the parameter at a place, if there is one
abbrev pub pushed_at : ℕ → End → List Parameter → List Parameter
pushed_at zero d [] = []
pushed_at (suc n) d [] = []
pushed_at zero d (q ∷ qs) = record { meaning = q.meaning; ends = q.ends ++ d ∷ [] } ∷ qs
pushed_at (suc n) d (q ∷ qs) = q ∷ pushed_at n d qs

-- one end more of the parameter whose channel it is of, if that is one of these, by their numbers from this one on
abbrev pub with_end : ℕ → List Parameter → ChannelEnd → List Parameter
with_end number [] d = []
with_end number (q ∷ qs) d =
    (if nat_eq d.channel number then record { meaning = q.meaning; ends = q.ends ++ d.end ∷ [] } else q)
    ∷ with_end (suc number) qs d
