-- The rows of a draft, by what they say.
use Rattle.std.specs.Prelude.{ℕ, ◌+◌, ◌≤◌, ℤ, pos, List, map}
use Rattle.module_format.specs.declared.limits.TheConstants.{MAX_DATA_WORDS}
use Rattle.module_format.specs.declared.fact.Fact.{Fact}
use Rattle.module_format.specs.declared.fact.Fact.TheVariants as facts
use Rattle.module_format.specs.declared.rows.Entry.{Entry}
use Rattle.module_format.specs.declared.rows.LabelRow.{LabelRow}
use Rattle.module_format.specs.declared.stack.Stack.{Stack}
use Rattle.module_builder.specs.declared.item.Label.{Label}
use Rattle.module_builder.specs.declared.draft.ContextName.{ContextName}
use Rattle.code_pieces.specs.declared.piece.RowEntry.{RowEntry}
use Rattle.code_pieces.specs.declared.piece.Workspace.{Workspace}
use Rattle.code_pieces.specs.declared.saying.Said.{Said}
use Rattle.code_pieces.specs.Pars.{Par}
use Rattle.code_pieces.specs.Contexts.{context_name}
use Rattle.code_pieces.specs.Numbers.{Needs, number_at}
use Rattle.code_pieces.specs.Laying.{label, said, SaidRow}

-- a fact in a draft; a row says nothing but ranges and loops
abbrev pub drafted_fact : Fact ℕ → Fact Label
drafted_fact (facts.Number lo hi) = facts.Number lo hi
drafted_fact (facts.Loop base count weight) = facts.Loop base count weight
drafted_fact f = facts.Unknown

-- it is said of words that a frame may have
abbrev pub IsOfFewWords : Said → Type 0
IsOfFewWords s = s.word + s.span ≤ MAX_DATA_WORDS

abbrev pub drafted_entry : Said → Entry Label
drafted_entry s = record { word = pos s.word; span = s.span; fact = drafted_fact s.fact }

-- a label row of a draft, with its entries as a list
pub record ShownRow : Type 0 where
  pub offset : Label
  pub context : ContextName
  pub depth : ℤ
  pub number : ℕ
  pub stack : Stack (Fact Label)
  pub entries : List (Entry Label)

-- nothing is known of registers
abbrev pub row_with : Label → ContextName → ℤ → ℕ → List (Entry Label) → ShownRow
row_with l context depth number entries = record {
  offset = l;
  context = context;
  depth = depth;
  number = number;
  stack = record { a = facts.Unknown; b = facts.Unknown; c = facts.Unknown };
  entries = entries;
}

abbrev pub shown_row : LabelRow Label ContextName → ShownRow
shown_row row = record (row_with row.offset row.context row.depth row.number row.entries.items) { stack = row.stack }

-- the row in a draft with these PARs
abbrev pub drafted_row : List Par → SaidRow → ShownRow
drafted_row ps row =
    row_with (label row.label) (context_name ps row.workspace.context) row.workspace.depth row.number
    (map drafted_entry row.entries)

-- what a row says at a label
abbrev pub said_row : Workspace → Needs → ℕ → List RowEntry → SaidRow
said_row workspace n l entries = record {
  label = l;
  workspace = workspace;
  number = number_at l n.labels;
  entries = said n.weights entries;
}
