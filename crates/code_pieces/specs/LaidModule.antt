-- What the module of pieces says.
use Rattle.std.specs.Prelude.{ℕ, ◌+◌, false, List, [], ◌∷◌, map, length, take, sum_by, Option, Some}
use Rattle.module_format.specs.declared.fact.Fact.TheVariants as facts
use Rattle.module_format.specs.declared.rows.TableRow.{TableRow}
use Rattle.module_format.specs.declared.tables.Version.TheVariants.{Two}
use Rattle.module_format.specs.Contents as contents
use Rattle.module_format.specs.Contents.{Contents, label_with}
use Rattle.module_format.specs.Keeping.{IsFile}
use Rattle.module_builder.specs.declared.draft.ContextName.{ContextName}
use Rattle.module_builder.specs.declared.draft.ContextName.TheVariants.{Root, Procedure, Branch}
use Rattle.module_builder.specs.Layouts.{places, IsLeast}
use Rattle.module_builder.specs.Spelling.{spelled}
use Rattle.module_builder.specs.Placing.{label_offset, finish_offset, placed_entry}
use Rattle.module_builder.specs.Ordering.{IsOrder, rows_in, position}
use Rattle.code_pieces.specs.declared.modules.TheConstants.{BASE}
use Rattle.code_pieces.specs.declared.piece.CodeContext.{CodeContext}
use Rattle.code_pieces.specs.Pars as pars
use Rattle.code_pieces.specs.Pars.{Par}
use Rattle.code_pieces.specs.Pieces.{Piece}
use Rattle.code_pieces.specs.Contexts.{context_name}
use Rattle.code_pieces.specs.Laying.{label, tables_before, draft_code, SaidRow, said_rows, pars_of, words_taken}
use Rattle.code_pieces.specs.Tables.{constants_of, table_rows_from}
use Rattle.code_pieces.specs.DraftedRows.{drafted_entry}
use Rattle.code_pieces.specs.DraftedPars.{laid_par}
use Rattle.code_pieces.specs.Laid.{needs_in}

-- ---- contexts

-- how many branches PARs have
abbrev pub branch_count : List Par → ℕ
branch_count ps = sum_by (λ p. length p.branches) ps

-- Before a branch are the root, the branches of the PARs that come before its own, and those before it in that one.
abbrev pub name_number : List Par → List (ℕ × ℕ) → ContextName → ℕ
name_number ps order Root = 0
name_number ps order (Procedure row) = 0
name_number ps order (Branch par branch) =
    1 + branch_count (rows_in (take (position order par) order) ps) + branch

-- the number of a context, where PARs come in this order
abbrev pub context_number : List Par → List (ℕ × ℕ) → CodeContext → ℕ
context_number ps order context = name_number ps order (context_name ps context)

-- ---- rows

-- a row of the module, where contexts have these numbers and labels these offsets; nothing is known of registers
abbrev pub laid_row : (CodeContext → ℕ) → List (Option ℕ) → SaidRow → contents.Label
laid_row number offsets row =
    label_with (label_offset offsets (label row.label)) (number row.workspace.context) row.workspace.depth row.number
    (record { a = facts.Unknown; b = facts.Unknown; c = facts.Unknown })
    (map (placed_entry offsets) (map drafted_entry row.entries))

-- where the first of these branches begins
abbrev pub first_branch : List (Option ℕ) → List pars.ParBranch → ℕ
first_branch offsets [] = 0
first_branch offsets (b ∷ bs) = label_offset offsets (label b.entry)

-- ---- the module

-- how long the items are, and in which order the label rows, the PAR rows and the table rows are
pub record Arrangement : Type 0 where
  pub lengths : List ℕ
  pub rows : List (ℕ × ℕ)
  pub pars : List (ℕ × ℕ)
  pub table_rows : List (ℕ × ℕ)

-- what the module of these pieces says, arranged so
abbrev pub laid_module : List Piece → ℕ → List ℕ → Arrangement → Contents
laid_module ps labels links a =
    let code = draft_code ps labels in
    let offsets = places code a.lengths in
    let needs = needs_in ps a.lengths in
    let tables = tables_before [] ps in
    let number = context_number (pars_of ps) a.pars in
    record {
      code = spelled code a.lengths;
      constants = constants_of tables;
      data_words = BASE + words_taken ps;
      base = BASE;
      budget = needs.need;
      finish = finish_offset offsets (Some (label labels));
      lengths = links;
      has_long_operations = false;
      procedures = [];
      labels = map (laid_row number offsets) (rows_in a.rows (said_rows needs ps));
      pars = map (laid_par number offsets) (rows_in a.pars (pars_of ps));
      table_rows = rows_in a.table_rows (table_rows_from 0 tables);
    }

-- The layout is the least. Label rows are ordered by their offsets, PAR rows by where their first branches begin, and
-- table rows by where tables begin.
pub record IsArrangement (ps : List Piece) (labels : ℕ) (a : Arrangement) : Type 0 where
  pub least : IsLeast (draft_code ps labels) a.lengths
  pub rows : IsOrder
      (map (λ (row : SaidRow). label_offset (places (draft_code ps labels) a.lengths) (label row.label))
      (said_rows (needs_in ps a.lengths) ps)) a.rows
  pub pars : IsOrder
      (map (λ (p : Par). first_branch (places (draft_code ps labels) a.lengths) p.branches) (pars_of ps)) a.pars
  pub table_rows : IsOrder (map (λ (row : TableRow). row.start) (table_rows_from 0 (tables_before [] ps))) a.table_rows

-- these bytes are the file of what is said of these pieces, in version 2
pub record Says (ps : List Piece) (labels : ℕ) (links : List ℕ) (bytes : List ℕ) : Type 0 where
  pub arrangement : Arrangement
  pub arranged : IsArrangement ps labels arrangement
  pub format : IsFile Two bytes (laid_module ps labels links arrangement)
