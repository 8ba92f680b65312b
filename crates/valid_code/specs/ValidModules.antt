-- Modules of valid pieces keep the rules of the format.
use Rattle.std.specs.Prelude.{◌≡◌, ◌≤◌, ℕ, true, List, length}
use Rattle.std.specs.List.{AllByRecursion}
use Rattle.module_format.specs.declared.limits.TheConstants.{MAX_CONSTANTS, MAX_DATA_WORDS, MAX_BUDGET, MAX_MESSAGE}
use Rattle.module_format.specs.declared.limits.TheConstants.{MAX_LABELS, MAX_TABLES}
use Rattle.module_format.specs.Contents.{Contents}
use Rattle.module_format.specs.declared.tables.Version.TheVariants.{Two}
use Rattle.module_format.specs.Keeping.{Keeps}
use Rattle.module_format.specs.Spelling.{file_of}
use Rattle.code_pieces.specs.Pieces.{Piece}
use Rattle.code_pieces.specs.Laying.{apart, sizes_of}
use Rattle.code_pieces.specs.Needed.{NeedsAreWithin}
use Rattle.code_pieces.specs.LaidModule.{Arrangement, IsArrangement, Says, laid_module}
use Rattle.valid_code.specs.ValidPieces.{AreApart, AreValid}

-- The rows of pieces are apart once they are kept apart.
abbrev pub RowsAreApart : Type 0
RowsAreApart = (ps : List Piece) → AreApart true (apart ps)

-- No number of the module is above a limit of the format. That code is short enough, its layout says.
pub record IsWithin (c : Contents) : Type 0 where
  pub constants : length c.constants ≤ MAX_CONSTANTS
  pub data_words : c.data_words ≤ MAX_DATA_WORDS
  pub budget : c.budget ≤ MAX_BUDGET
  pub lengths : AllByRecursion (λ n. n ≤ MAX_MESSAGE) c.lengths
  pub labels : length c.labels ≤ MAX_LABELS
  pub table_rows : length c.table_rows ≤ MAX_TABLES

-- nor a number of it, where items have the lengths of its layout
pub record AreWithin (ps : List Piece) (labels : ℕ) (links : List ℕ) (a : Arrangement) : Type 0 where
  pub contents : IsWithin (laid_module ps labels links a)
  pub needs : NeedsAreWithin ps (sizes_of ps a.lengths)

-- The module of valid pieces for eight links keeps the rules of the format.
abbrev pub ModulesAreValid : Type 0
ModulesAreValid = (ps : List Piece) (labels : ℕ) (links : List ℕ) (a : Arrangement) → AreValid ps labels
    → length links ≡ 8 → IsArrangement ps labels a → AreWithin ps labels links a
    → Keeps (laid_module ps labels links a)

-- So a file says these pieces, in this arrangement.
abbrev pub PiecesAreSaid : Type 0
PiecesAreSaid = (ps : List Piece) (labels : ℕ) (links : List ℕ) (a : Arrangement) → AreValid ps labels
    → length links ≡ 8 → IsArrangement ps labels a → AreWithin ps labels links a
    → (says : Says ps labels links (file_of Two (laid_module ps labels links a))) × (says.arrangement ≡ a)
