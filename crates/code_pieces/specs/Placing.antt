-- Labels that are placed while code is written.
use Rattle.std.specs.Prelude.{◌≡◌, ℕ, List, length, slice_index_or, Option, Some, None, unwrap_or}
use Rattle.module_builder.specs.Drafts.{Code}
use Rattle.code_pieces.specs.Pieces.{Piece, Row, Place}
use Rattle.code_pieces.specs.Numbers.{Numbered, number_at}
use Rattle.code_pieces.specs.Laying.{placed_from}

-- A label that is placed is where it is to be, and one that is not is where the pieces that are left place it.
pub record IsPlacing (code : Code) (left : List Piece) (placed : List Numbered) : Type 0 where
  pub each : (label : ℕ) → unwrap_or (slice_index_or code.labels label None)
      (number_at label (placed_from (length code.items) left)) ≡ number_at label placed

-- the label that a piece places
abbrev pub label_in : Piece → Option ℕ
label_in (Row l entries) = Some l
label_in (Place l) = Some l
label_in p = None
