-- The rows of a draft with offsets in place of labels, where `places` has the offset of each label.
use Rattle.std.specs.Prelude.{ℕ, List, map, Option, Some, None, unwrap_or, slice_index_or}
use Rattle.module_format.specs.declared.fact.Fact.{Fact}
use Rattle.module_format.specs.declared.fact.Fact.TheVariants as facts
use Rattle.module_format.specs.declared.rows.Entry.{Entry}
use Rattle.module_format.specs.declared.rows.ProcedureRow.{ProcedureRow}
use Rattle.module_format.specs.declared.rows.LabelRow.{LabelRow}
use Rattle.module_format.specs.declared.rows.BranchRow.{BranchRow}
use Rattle.module_format.specs.declared.rows.ParRow.{ParRow}
use Rattle.module_format.specs.Contents.{Procedure, label_with, branch_with, Branch, par_with, Par}
use Rattle.module_format.specs.Contents as contents
use Rattle.module_format.specs.Stack.{mapped}
use Rattle.module_builder.specs.declared.item.Label.{Label}
use Rattle.module_builder.specs.declared.draft.ContextName.{ContextName}

-- where a label is; 0 if it is not placed
abbrev pub label_offset : List (Option ℕ) → Label → ℕ
label_offset places label = unwrap_or (slice_index_or places label.index None) 0

-- where the module is finished; 0 if nowhere
abbrev pub finish_offset : List (Option ℕ) → Option Label → ℕ
finish_offset places None = 0
finish_offset places (Some label) = label_offset places label

abbrev pub placed_fact : List (Option ℕ) → Fact Label → Fact ℕ
placed_fact places facts.Unknown = facts.Unknown
placed_fact places (facts.Number lo hi) = facts.Number lo hi
placed_fact places (facts.Pointer region lo hi step) = facts.Pointer region lo hi step
placed_fact places (facts.CodeAddress label) = facts.CodeAddress (label_offset places label)
placed_fact places (facts.Loop base count weight) = facts.Loop base count weight
placed_fact places facts.ReturnAddress = facts.ReturnAddress

abbrev pub placed_entry : List (Option ℕ) → Entry Label → Entry ℕ
placed_entry places e = record { word = e.word; span = e.span; fact = placed_fact places e.fact }

abbrev pub placed_procedure : List (Option ℕ) → ProcedureRow Label → Procedure
placed_procedure places row = record {
  entry = label_offset places row.entry;
  lo = row.lo;
  hi = row.hi;
  number = row.number;
  parameters = row.parameters.items;
}

-- a label row, in the context with this number
abbrev pub placed_label : List (Option ℕ) → ℕ → LabelRow Label ContextName → contents.Label
placed_label places context row =
    label_with (label_offset places row.offset) context row.depth row.number (mapped (placed_fact places) row.stack)
    (map (placed_entry places) row.entries.items)

abbrev pub placed_branch : List (Option ℕ) → BranchRow Label → Branch
placed_branch places row =
    branch_with (label_offset places row.entry) row.workspace row.writes.items row.reads.items
    row.written_parameters.items row.read_parameters.items row.ends.items

-- a PAR row, in the context with this number
abbrev pub placed_par : List (Option ℕ) → ℕ → ParRow Label ContextName → Par
placed_par places context row =
    par_with context row.depth row.block (label_offset places row.successor) row.channels.items
    (map (placed_branch places) row.branches.items)
