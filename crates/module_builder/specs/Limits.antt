-- The limits of the format, on a draft: what a reader reports as above a limit.
use Rattle.std.specs.Prelude.{⊤, ℕ, ◌+◌, ◌≤◌, List, length, sum_by}
use Rattle.std.specs.List.{AllByRecursion}
use Rattle.module_format.specs.declared.rows.ParameterKind.{ParameterKind}
use Rattle.module_format.specs.declared.rows.ParameterKind.TheVariants as kinds
use Rattle.module_format.specs.declared.rows.Parameter.{Parameter}
use Rattle.module_format.specs.declared.rows.ChannelRow.{ChannelRow}
use Rattle.module_format.specs.declared.rows.ProcedureRow.{ProcedureRow}
use Rattle.module_format.specs.declared.rows.ParRow.{ParRow}
use Rattle.module_format.specs.declared.limits.TheConstants.{MAX_CONSTANTS, MAX_DATA_WORDS, MAX_BUDGET, MAX_MESSAGE}
use Rattle.module_format.specs.declared.limits.TheConstants.{MAX_PROCEDURES, MAX_LABELS, MAX_PARS, MAX_TABLES}
use Rattle.module_format.specs.declared.limits.TheConstants.{MAX_PARAMETERS, MAX_BRANCHES}
use Rattle.module_builder.specs.declared.limits.TheConstants.{MAX_CONTEXTS}
use Rattle.module_builder.specs.declared.item.Label.{Label}
use Rattle.module_builder.specs.declared.draft.ContextName.{ContextName}
use Rattle.module_builder.specs.declared.draft.Draft.{Draft}

-- the length of a message
abbrev pub KindIsWithin : ParameterKind → Type 0
KindIsWithin (kinds.Value lo hi) = ⊤
KindIsWithin (kinds.ReadRegion size lo hi) = ⊤
KindIsWithin (kinds.WrittenRegion size lo hi) = ⊤
KindIsWithin (kinds.Channels count len ends) = len ≤ MAX_MESSAGE

pub record ProcedureIsWithin (row : ProcedureRow Label) : Type 0 where
  pub few : length row.parameters.items ≤ MAX_PARAMETERS
  pub messages : AllByRecursion (λ (p : Parameter). KindIsWithin p.kind) row.parameters.items

pub record ParIsWithin (row : ParRow Label ContextName) : Type 0 where
  pub few : length row.branches.items ≤ MAX_BRANCHES
  pub messages : AllByRecursion (λ (channel : ChannelRow). channel.length ≤ MAX_MESSAGE) row.channels.items

-- how many branches PAR rows have
abbrev pub branch_count : List (ParRow Label ContextName) → ℕ
branch_count rows = sum_by (λ row. length row.branches.items) rows

pub record HeaderIsWithin (d : Draft) : Type 0 where
  pub constants : length d.constants.items ≤ MAX_CONSTANTS
  pub data_words : d.data_words ≤ MAX_DATA_WORDS
  pub budget : d.budget ≤ MAX_BUDGET
  pub lengths : AllByRecursion (λ n. n ≤ MAX_MESSAGE) d.lengths

-- the numbers of rows
pub record CountsAreWithin (d : Draft) : Type 0 where
  pub procedures : length d.procedures.items ≤ MAX_PROCEDURES
  pub labels : length d.labels.items ≤ MAX_LABELS
  pub pars : length d.pars.items ≤ MAX_PARS
  pub table_rows : length d.table_rows.items ≤ MAX_TABLES

-- what is in the rows, and how many contexts they are
pub record RowsAreWithin (d : Draft) : Type 0 where
  pub counts : CountsAreWithin d
  pub procedures : AllByRecursion ProcedureIsWithin d.procedures.items
  pub pars : AllByRecursion ParIsWithin d.pars.items
  pub contexts : 1 + length d.procedures.items + branch_count d.pars.items ≤ MAX_CONTEXTS

-- no number of the draft, but the length of its code, is above a limit
pub record DraftIsWithin (d : Draft) : Type 0 where
  pub header : HeaderIsWithin d
  pub rows : RowsAreWithin d
