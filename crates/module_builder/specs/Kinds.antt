-- The four kinds of rows: how the rows of a draft are ordered, the context that one names, and the row of a file.
use Rattle.std.specs.Prelude.{ℕ, List, Option}
use Rattle.module_format.specs.declared.rows.ProcedureRow.{ProcedureRow}
use Rattle.module_format.specs.declared.rows.LabelRow.{LabelRow}
use Rattle.module_format.specs.declared.rows.ParRow.{ParRow}
use Rattle.module_format.specs.declared.rows.TableRow.{TableRow}
use Rattle.module_format.specs.Contents.{procedure_of, label_of, par_of}
use Rattle.module_builder.specs.declared.item.Label.{Label}
use Rattle.module_builder.specs.declared.draft.ContextName.{ContextName}
use Rattle.module_builder.specs.declared.draft.ContextName.TheVariants.{Root}
use Rattle.module_builder.specs.Placing.{label_offset, placed_procedure, placed_label, placed_par}
use Rattle.module_builder.specs.Assembled.{first_entry}

-- a kind of rows of a draft, which are other rows in a file; `key` and `placed` take the offsets of labels
pub record Kind (Row Placed : Type 0) : Type 1 where
  -- what a row of a file says
  pub Value : Type 0
  pub view : Placed → Value
  -- rows are ordered by their keys
  pub key : List (Option ℕ) → Row → ℕ
  pub context : Row → ContextName
  -- what the row of a file says, in the context with a number
  pub placed : List (Option ℕ) → ℕ → Row → Value

-- procedures, which name no context, are ordered by their entries
abbrev pub procedures : Kind (ProcedureRow Label) (ProcedureRow ℕ)
procedures = record {
  Value = _;
  view = procedure_of;
  key = λ offsets row. label_offset offsets row.entry;
  context = λ row. Root;
  placed = λ offsets context row. placed_procedure offsets row;
}

abbrev pub labels : Kind (LabelRow Label ContextName) (LabelRow ℕ ℕ)
labels = record {
  Value = _;
  view = label_of;
  key = λ offsets row. label_offset offsets row.offset;
  context = λ row. row.context;
  placed = placed_label;
}

-- PARs are ordered by the entries of their first branches
abbrev pub pars : Kind (ParRow Label ContextName) (ParRow ℕ ℕ)
pars = record {
  Value = _;
  view = par_of;
  key = first_entry;
  context = λ row. row.context;
  placed = placed_par;
}

-- what is known of the constants is ordered by where they begin
abbrev pub tables : Kind TableRow TableRow
tables = record {
  Value = _;
  view = λ row. row;
  key = λ offsets row. row.start;
  context = λ row. Root;
  placed = λ offsets context row. row;
}
