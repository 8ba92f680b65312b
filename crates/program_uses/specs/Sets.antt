-- What a set of uses has.
use Rattle.std.specs.Prelude.{◌≡◌, Bool, true, false, ◌&&◌, ◌||◌, List, ◌++◌, map, nat_eq}
use Rattle.std.specs.List.{list_any}
use Rattle.program_uses.specs.declared.ends.ChannelEnd.{ChannelEnd}
use Rattle.program_uses.specs.declared.used_ends.UsedEnds.{UsedEnds}
use Rattle.program_uses.specs.declared.uses.Direction.{Direction}
use Rattle.program_uses.specs.declared.uses.Direction.TheVariants as direction
use Rattle.program_uses.specs.declared.uses.Use.{Use}
use Rattle.program_uses.specs.declared.uses.Use.TheVariants as used
use Rattle.program_uses.specs.declared.uses.Uses.{Uses}
use Rattle.program_uses.specs.Numbers.{numbers_of}

abbrev pub is_same_way : Direction → Direction → Bool
is_same_way direction.Input direction.Input = true
is_same_way direction.Output direction.Output = true
is_same_way d e = false

abbrev pub is_same : Use → Use → Bool
is_same (used.Read m) (used.Read n) = nat_eq m n
is_same (used.Change m) (used.Change n) = nat_eq m n
is_same (used.Channel m i d) (used.Channel n j e) = nat_eq m n && (nat_eq i j && is_same_way d e)
is_same u v = false

abbrev pub is_among : List Use → Use → Bool
is_among us u = list_any (is_same u) us

abbrev pub use_of : ChannelEnd → Use
use_of d = used.Channel d.channel d.end.element d.end.direction

abbrev pub uses_at : UsedEnds → List Use
uses_at s = map use_of s.set.keys

-- each use that a set has
unfoldable pub members_of : Uses → List Use
members_of s = map used.Read (numbers_of s.reads) ++ (map used.Change (numbers_of s.changes) ++ uses_at s.ends)

abbrev pub has : Uses → Use → Bool
has s u = is_among (members_of s) u

-- A set has what it had before and what was added, if memory was enough for all that it has.
pub record Adds (old new : Uses) (us : List Use) : Type 0 where
  pub complete : new.complete ≡ true → old.complete ≡ true
  pub has : new.complete ≡ true → (u : Use) → has new u ≡ (has old u || is_among us u)

-- A set has what it had before and what another one has, if memory was enough for all that they have.
pub record Joins (old new other : Uses) : Type 0 where
  pub complete : new.complete ≡ true → (old.complete ≡ true) × (other.complete ≡ true)
  pub has : new.complete ≡ true → (u : Use) → has new u ≡ (has old u || has other u)
