-- What is known of names whose declarations break no rule: a constant has its value, and an array its size.
use Rattle.std.specs.Prelude.{◌≡◌, ℕ, nat_lt, Bool, true, List, [], ◌∷◌, Option, Some, None, is_some}
use Rattle.scalar_ranges.specs.Entries.{Meaning, Constant, Scalar, Array, Channel, Channels, Procedure, Entry}
use Rattle.scalar_ranges.specs.Moves.{Block, Known}

-- where there is this number of procedures
abbrev pub is_whole : ℕ → Meaning → Bool
is_whole count (Constant type value) = is_some value
is_whole count (Scalar kind type range) = true
is_whole count (Array kind type size range) = is_some size
is_whole count (Channel type) = true
is_whole count (Channels type size) = is_some size
is_whole count (Procedure number) = nat_lt number count

abbrev pub AreWhole : ℕ → List Entry → Type 0
AreWhole count [] = Unit {0}
AreWhole count (e ∷ es) = (is_whole count e.meaning ≡ true) × AreWhole count es

abbrev pub AreWholeIfAny : ℕ → Option (List Entry) → Type 0
AreWholeIfAny count None = Unit {0}
AreWholeIfAny count (Some es) = AreWhole count es

-- the entries with which the branches of the blocks around begin, and their ends
abbrev pub BlocksAreWhole : ℕ → List Block → Type 0
BlocksAreWhole count [] = Unit {0}
BlocksAreWhole count (b ∷ bs) = AreWhole count b.start × AreWholeIfAny count b.ends × BlocksAreWhole count bs

pub record IsWhole (count : ℕ) (k : Known) : Type 0 where
  pub entries : AreWhole count k.entries
  pub blocks : BlocksAreWhole count k.blocks
