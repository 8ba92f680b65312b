-- The tables of a draft as its file has them: rows in order, offsets for labels and numbers for contexts.
use Rattle.std.specs.Prelude.{⊤, ℕ, ◌+◌, ◌≤◌, nat_lt, if◌then◌else◌, List, map, length, take, slice_get}
use Rattle.std.specs.Prelude.{Option, None, Some, IsSome, unwrap_or, Result, Ok, Err}
use Rattle.std.specs.List.{AllByRecursion}
use Rattle.module_format.specs.declared.rows.LabelRow.{LabelRow}
use Rattle.module_format.specs.declared.rows.ProcedureRow.{ProcedureRow}
use Rattle.module_format.specs.declared.rows.BranchRow.{BranchRow}
use Rattle.module_format.specs.declared.rows.ParRow.{ParRow}
use Rattle.module_format.specs.declared.rows.TableRow.{TableRow}
use Rattle.module_format.specs.Contents.{Contents}
use Rattle.module_format.specs.Keeping.{Keeps, FitsVersion, IsFile, max_code}
use Rattle.module_builder.specs.declared.limits.TheConstants.{MAX_CONTEXTS}
use Rattle.module_builder.specs.declared.item.Label.{Label}
use Rattle.module_builder.specs.declared.draft.ContextName.{ContextName}
use Rattle.module_builder.specs.declared.draft.ContextName.TheVariants.{Root, Procedure, Branch}
use Rattle.module_builder.specs.declared.draft.Draft.{Draft}
use Rattle.module_builder.specs.declared.fault.GenFault.{GenFault}
use Rattle.module_builder.specs.declared.fault.GenFault.TheVariants as faults
use Rattle.module_builder.specs.declared.layouts.Layout.{Layout}
use Rattle.module_builder.specs.declared.orders.Orders.{Orders}
use Rattle.module_builder.specs.Layouts.{places, IsLeast}
use Rattle.module_builder.specs.Spelling.{spelled}
use Rattle.module_builder.specs.Placing.{label_offset, finish_offset, placed_procedure, placed_label, placed_par}
use Rattle.module_builder.specs.Ordering.{IsOrder, rows_in, position}
use Rattle.module_builder.specs.Limits.{branch_count, DraftIsWithin}

-- how long each item is, and the order of the rows
pub record Arrangement : Type 0 where
  pub lengths : List ℕ
  pub procedures : List (ℕ × ℕ)
  pub labels : List (ℕ × ℕ)
  pub pars : List (ℕ × ℕ)
  pub table_rows : List (ℕ × ℕ)

-- the entry of a branch; 0 if there is none
abbrev pub entry_of : List (Option ℕ) → Option (BranchRow Label) → ℕ
entry_of offsets None = 0
entry_of offsets (Some b) = label_offset offsets b.entry

-- the entry of a PAR row's first branch
abbrev pub first_entry : List (Option ℕ) → ParRow Label ContextName → ℕ
first_entry offsets row = entry_of offsets (slice_get row.branches.items 0)

-- Procedure rows are ordered by their entries, label rows by their offsets, PAR rows by the entries of their first
-- branches, and table rows by their starts, where labels have these offsets.
pub record AreInOrder (d : Draft) (offsets : List (Option ℕ)) (a : Arrangement) : Type 0 where
  pub procedures :
      IsOrder (map (λ (row : ProcedureRow Label). label_offset offsets row.entry) d.procedures.items) a.procedures
  pub labels :
      IsOrder (map (λ (row : LabelRow Label ContextName). label_offset offsets row.offset) d.labels.items) a.labels
  pub pars : IsOrder (map (first_entry offsets) d.pars.items) a.pars
  pub table_rows : IsOrder (map (λ (row : TableRow). row.start) d.table_rows.items) a.table_rows

-- the least layout, and the rows in order by it
pub record IsArranged (d : Draft) (a : Arrangement) : Type 0 where
  pub least : IsLeast d.code a.lengths
  pub orders : AreInOrder d (places d.code a.lengths) a

-- as a program has it
abbrev pub arrangement_of : Layout → Orders → Arrangement
arrangement_of layout orders = record {
  lengths = layout.lengths.items;
  procedures = orders.procedures.items;
  labels = orders.labels.items;
  pars = orders.pars.items;
  table_rows = orders.table_rows.items;
}

-- ---- contexts

-- the number of a PAR row's first branch: before it are the root, the procedures and the branches of the rows before it
abbrev pub first_context : Draft → List (ℕ × ℕ) → ℕ → ℕ
first_context d pars par =
    1 + length d.procedures.items + branch_count (rows_in (take (position pars par) pars) d.pars.items)

-- a number that a file can name
abbrev pub nameable : ℕ → Option ℕ
nameable number = if nat_lt number MAX_CONTEXTS then Some number else None

-- the number of a branch of a PAR row that has its first branch at `first`
abbrev pub branch_number : ℕ → ℕ → Option (ParRow Label ContextName) → Option ℕ
branch_number first branch None = None
branch_number first branch (Some row) =
    if nat_lt branch (length row.branches.items) then nameable (first + branch) else None

-- the number of a context, if there is that context, where procedure rows and PAR rows are in these orders
abbrev pub context_number : Draft → List (ℕ × ℕ) → List (ℕ × ℕ) → ContextName → Option ℕ
context_number d procedures pars Root = Some 0
context_number d procedures pars (Procedure row) =
    if nat_lt row (length d.procedures.items) then nameable (1 + position procedures row) else None
context_number d procedures pars (Branch par branch) =
    branch_number (first_context d pars par) branch (slice_get d.pars.items par)

abbrev pub IsThere : Draft → List (ℕ × ℕ) → List (ℕ × ℕ) → ContextName → Type 0
IsThere d procedures pars context = IsSome (context_number d procedures pars context)

-- the number, as a row has it
abbrev pub number_in : Draft → Arrangement → ContextName → ℕ
number_in d a context = unwrap_or (context_number d a.procedures a.pars context) 0

-- the contexts that rows name are there
pub record ContextsAreThere (d : Draft) (a : Arrangement) : Type 0 where
  pub labels :
      AllByRecursion (λ (row : LabelRow Label ContextName). IsThere d a.procedures a.pars row.context) d.labels.items
  pub pars : AllByRecursion (λ (row : ParRow Label ContextName). IsThere d a.procedures a.pars row.context) d.pars.items

-- ---- the tables

-- where labels have these offsets
abbrev pub tables_with : Draft → Arrangement → List (Option ℕ) → Contents
tables_with d a offsets = record {
  code = spelled d.code a.lengths;
  constants = d.constants.items;
  data_words = d.data_words;
  base = d.base;
  budget = d.budget;
  finish = finish_offset offsets d.finish;
  lengths = d.lengths;
  has_long_operations = d.has_long_operations;
  procedures = map (placed_procedure offsets) (rows_in a.procedures d.procedures.items);
  labels =
      map (λ (row : LabelRow Label ContextName). placed_label offsets (number_in d a row.context) row)
      (rows_in a.labels d.labels.items);
  pars =
      map (λ (row : ParRow Label ContextName). placed_par offsets (number_in d a row.context) row)
      (rows_in a.pars d.pars.items);
  table_rows = rows_in a.table_rows d.table_rows.items;
}

-- the tables of a draft whose rows are arranged so
abbrev pub tables_of : Draft → Arrangement → Contents
tables_of d a = tables_with d a (places d.code a.lengths)

-- ---- what is made of a draft

-- no number is above a limit of the format
pub record IsWithinLimits (d : Draft) (lengths : List ℕ) : Type 0 where
  pub draft : DraftIsWithin d
  pub code : length (spelled d.code lengths) ≤ max_code d.version

-- the contexts are there, and the tables are valid and fit the draft's version
pub record IsValid (d : Draft) (a : Arrangement) : Type 0 where
  pub contexts : ContextsAreThere d a
  pub tables : Keeps (tables_of d a)
  pub fits : FitsVersion d.version (tables_of d a)

-- these bytes are the file of the draft's tables, in its version
pub record IsAssembled (d : Draft) (bytes : List ℕ) : Type 0 where
  pub arrangement : Arrangement
  pub arranged : IsArranged d arrangement
  pub within : IsWithinLimits d arrangement.lengths
  pub contexts : ContextsAreThere d arrangement
  pub format : IsFile d.version bytes (tables_of d arrangement)

-- the draft's tables are within the limits, and not valid
pub record IsInvalid (d : Draft) : Type 0 where
  pub arrangement : Arrangement
  pub arranged : IsArranged d arrangement
  pub within : IsWithinLimits d arrangement.lengths
  pub invalid : IsValid d arrangement → ⊥

-- no layout fits, or some number is above a limit
abbrev pub IsTooLarge : Draft → Type 0
IsTooLarge d = (lengths : List ℕ) → IsLeast d.code lengths → IsWithinLimits d lengths → ⊥

-- what is returned, and when, where `view` shows the bytes
abbrev pub Assembles : {V : Type 0} → (V → List ℕ) → Draft → Result V GenFault → Type 0
Assembles view d (Ok file) = IsAssembled d (view file)
Assembles view d (Err faults.Limit) = IsTooLarge d
Assembles view d (Err faults.Memory) = ⊤
Assembles view d (Err faults.Invalid) = IsInvalid d
