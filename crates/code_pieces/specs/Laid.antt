-- The draft that pieces are laid out as, and the module that it gives.
use Rattle.std.specs.Prelude.{◌≡◌, ◌≤◌, ℕ, ◌+◌, false, List, [], map, Some}
use Rattle.module_format.specs.declared.limits.TheConstants.{MAX_DATA_WORDS}
use Rattle.module_format.specs.declared.tables.Version.TheVariants.{Two}
use Rattle.module_builder.specs.declared.draft.Draft.{Draft}
use Rattle.module_builder.specs.Drafts.{Code}
use Rattle.module_builder.specs.Layouts.{IsLeast}
use Rattle.module_builder.specs.Assembled.{IsWithinLimits, IsAssembled}
use Rattle.code_pieces.specs.declared.modules.TheConstants.{BASE}
use Rattle.code_pieces.specs.declared.needs.Needs as vectors
use Rattle.code_pieces.specs.Pieces.{Piece}
use Rattle.code_pieces.specs.Numbers.{Needs, needs_of}
use Rattle.code_pieces.specs.Needed.{IsKnown, NeedsAreWithin}
use Rattle.code_pieces.specs.Laying.{apart, label, tables_before, draft_code, sizes_of, said_rows, pars_of}
use Rattle.code_pieces.specs.Laying.{words_taken}
use Rattle.code_pieces.specs.Tables.{TablesAreWithin, constants_of, table_rows_from}
use Rattle.code_pieces.specs.DraftedRows.{shown_row, drafted_row}
use Rattle.code_pieces.specs.DraftedPars.{AreRows}

-- what is known before the first piece, where items have these lengths
abbrev pub needs_in : List Piece → List ℕ → Needs
needs_in ps lengths = needs_of ps (sizes_of ps lengths)

-- A draft with the code and the tables of these pieces, with this number of labels and links that take these messages.
pub record IsDraftOf (ps : List Piece) (labels : ℕ) (links : List ℕ) (d : Draft) : Type 0 where
  pub code : d.code ≡ draft_code ps labels
  pub version : d.version ≡ Two
  pub constants : d.constants.items ≡ constants_of (tables_before [] ps)
  pub data_words : d.data_words ≡ BASE + words_taken ps
  pub base : d.base ≡ BASE
  pub finish : d.finish ≡ Some (label labels)
  pub lengths : d.lengths ≡ links
  pub no_long_operations : d.has_long_operations ≡ false
  pub procedures : d.procedures.items ≡ []
  pub pars : AreRows (pars_of ps) (pars_of ps) d.pars.items
  pub table_rows : d.table_rows.items ≡ table_rows_from 0 (tables_before [] ps)

-- the same with the budget and the label rows that follow from the lengths of the items
pub record IsLaid (ps : List Piece) (labels : ℕ) (links : List ℕ) (lengths : List ℕ) (d : Draft) : Type 0 where
  pub draft : IsDraftOf ps labels links d
  pub budget : d.budget ≡ (needs_in ps lengths).need
  pub rows : map shown_row d.labels.items ≡ map (drafted_row (pars_of ps)) (said_rows (needs_in ps lengths) ps)

-- the lengths are those of the least layout
pub record IsLaidOut (ps : List Piece) (labels : ℕ) (links : List ℕ) (d : Draft) : Type 0 where
  pub lengths : List ℕ
  pub least : IsLeast (draft_code ps labels) lengths
  pub laid : IsLaid ps labels links lengths d

-- what is needed by the least layout of this code
pub record AreNeeded (code : Code) (ps : List Piece) (v : vectors.Needs) : Type 0 where
  pub lengths : List ℕ
  pub least : IsLeast code lengths
  pub known : IsKnown v (needs_in ps lengths)

-- by the least layout of this code, no number of bytes that are executed is above the limit
abbrev pub NeedsFit : Code → List Piece → Type 0
NeedsFit code ps = (lengths : List ℕ) → IsLeast code lengths → NeedsAreWithin ps (sizes_of ps lengths)

-- these bytes are the module of these pieces
pub record IsModuleOf (ps : List Piece) (labels : ℕ) (links : List ℕ) (bytes : List ℕ) : Type 0 where
  pub draft : Draft
  pub laid : IsLaidOut (apart ps) labels links draft
  pub assembled : IsAssembled draft bytes

-- no number is above a limit, where items have these lengths
pub record AreWithinLimits (ps : List Piece) (labels : ℕ) (links : List ℕ) (lengths : List ℕ) : Type 0 where
  pub words : BASE + words_taken ps ≤ MAX_DATA_WORDS
  pub tables : TablesAreWithin (tables_before [] ps)
  pub needs : NeedsAreWithin ps (sizes_of ps lengths)
  pub draft : (d : Draft) → IsLaid ps labels links lengths d → IsWithinLimits d lengths

-- no layout fits, or some number is above a limit
abbrev pub AreTooLarge : List Piece → ℕ → List ℕ → Type 0
AreTooLarge ps labels links =
    (lengths : List ℕ) → IsLeast (draft_code ps labels) lengths → AreWithinLimits ps labels links lengths → ⊥
