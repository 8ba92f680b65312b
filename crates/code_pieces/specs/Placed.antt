-- Labels that pieces place in code.
use Rattle.std.specs.Prelude.{◌⊎◌, ℕ, List, IsSome, None, slice_index_or}
use Rattle.module_builder.specs.Drafts.{Code}
use Rattle.code_pieces.specs.Pieces.{Piece}
use Rattle.code_pieces.specs.WellFormed.{IsPlacedIn}

-- the label with this number is placed
abbrev pub IsThere : Code → ℕ → Type 0
IsThere code l = IsSome (slice_index_or code.labels l None)

-- What code was before these pieces were written, and what it is then: their labels are placed, and no other is that
-- was not placed before.
pub record HavePlaced (old : Code) (ps : List Piece) (new : Code) : Type 0 where
  pub kept : (l : ℕ) → IsThere old l → IsThere new l
  pub placed : (l : ℕ) → IsPlacedIn l ps → IsThere new l
  pub only : (l : ℕ) → IsThere new l → IsThere old l ⊎ IsPlacedIn l ps
