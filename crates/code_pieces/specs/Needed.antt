-- Numbers of labels as the program keeps them, in vectors by label, and code whose numbers are within the limit.
use Rattle.std.specs.Prelude.{◌≡◌, ◌≤◌, ◌<◌, ℕ, List, length, drop, slice_index}
use Rattle.module_format.specs.declared.limits.TheConstants.{MAX_BUDGET}
use Rattle.code_pieces.specs.declared.needs.Needs as vectors
use Rattle.code_pieces.specs.Pieces.{Piece}
use Rattle.code_pieces.specs.Numbers.{Numbered, number_at, Needs, needs_of}

-- the numbers, by label
pub record Tells (numbers : List ℕ) (ns : List Numbered) : Type 0 where
  pub each : (label : ℕ) → label < length numbers → slice_index numbers label ≡ number_at label ns

-- what is known after a piece
pub record IsKnown (v : vectors.Needs) (n : Needs) : Type 0 where
  pub need : v.need ≡ n.need
  pub labels : Tells v.labels.items n.labels
  pub ends : Tells v.ends.items n.ends
  pub weights : Tells v.weights.items n.weights

-- the vectors have this number of labels
pub record HasLabels (count : ℕ) (v : vectors.Needs) : Type 0 where
  pub labels : length v.labels.items ≡ count
  pub ends : length v.ends.items ≡ count
  pub weights : length v.weights.items ≡ count

-- from no piece on, where pieces have these sizes, are more bytes executed than a budget may be
pub record NeedsAreWithin (ps : List Piece) (sizes : List ℕ) : Type 0 where
  pub each : (number : ℕ) → (needs_of (drop number ps) (drop number sizes)).need ≤ MAX_BUDGET
