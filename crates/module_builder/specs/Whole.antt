-- New drafts, and drafts whose labels are all placed.
use Rattle.std.specs.Prelude.{◌≡◌, ⊤, false, [], replicate, Option, Some, None}
use Rattle.std.specs.List.{AllByRecursion}
use Rattle.module_format.specs.declared.fact.Fact.{Fact}
use Rattle.module_format.specs.declared.fact.Fact.TheVariants as facts
use Rattle.module_format.specs.declared.rows.Entry.{Entry}
use Rattle.module_format.specs.declared.rows.ProcedureRow.{ProcedureRow}
use Rattle.module_format.specs.declared.rows.LabelRow.{LabelRow}
use Rattle.module_format.specs.declared.rows.BranchRow.{BranchRow}
use Rattle.module_format.specs.declared.rows.ParRow.{ParRow}
use Rattle.module_format.specs.declared.tables.Version.{Version}
use Rattle.module_builder.specs.declared.item.Label.{Label}
use Rattle.module_builder.specs.declared.draft.ContextName.{ContextName}
use Rattle.module_builder.specs.declared.draft.Draft.{Draft}
use Rattle.module_builder.specs.Drafts.{Code, IsPlaced, IsComplete}

-- no instruction and no row, and each number is 0
pub record IsNew (v : Version) (d : Draft) : Type 0 where
  pub version : d.version ≡ v
  pub code : d.code ≡ record { items = []; labels = [] }
  pub constants : d.constants.items ≡ []
  pub data_words : d.data_words ≡ 0
  pub base : d.base ≡ 0
  pub budget : d.budget ≡ 0
  pub finish : d.finish ≡ None
  pub lengths : d.lengths ≡ replicate 8 0
  pub has_long_operations : d.has_long_operations ≡ false
  pub procedures : d.procedures.items ≡ []
  pub labels : d.labels.items ≡ []
  pub pars : d.pars.items ≡ []
  pub table_rows : d.table_rows.items ≡ []

-- ---- placed

abbrev pub FactIsPlaced : Code → Fact Label → Type 0
FactIsPlaced code facts.Unknown = ⊤
FactIsPlaced code (facts.Number lo hi) = ⊤
FactIsPlaced code (facts.Pointer region lo hi step) = ⊤
FactIsPlaced code (facts.CodeAddress label) = IsPlaced code label
FactIsPlaced code (facts.Loop base count weight) = ⊤
FactIsPlaced code facts.ReturnAddress = ⊤

abbrev pub FinishIsPlaced : Code → Option Label → Type 0
FinishIsPlaced code None = ⊤
FinishIsPlaced code (Some label) = IsPlaced code label

pub record LabelRowIsPlaced (code : Code) (row : LabelRow Label ContextName) : Type 0 where
  pub offset : IsPlaced code row.offset
  pub a : FactIsPlaced code row.stack.a
  pub b : FactIsPlaced code row.stack.b
  pub c : FactIsPlaced code row.stack.c
  pub entries : AllByRecursion (λ (e : Entry Label). FactIsPlaced code e.fact) row.entries.items

pub record ParIsPlaced (code : Code) (row : ParRow Label ContextName) : Type 0 where
  pub successor : IsPlaced code row.successor
  pub branches : AllByRecursion (λ (b : BranchRow Label). IsPlaced code b.entry) row.branches.items

-- each label that an instruction, the header or a row refers to is placed
pub record IsWhole (d : Draft) : Type 0 where
  pub code : IsComplete d.code
  pub finish : FinishIsPlaced d.code d.finish
  pub procedures : AllByRecursion (λ (row : ProcedureRow Label). IsPlaced d.code row.entry) d.procedures.items
  pub labels : AllByRecursion (LabelRowIsPlaced d.code) d.labels.items
  pub pars : AllByRecursion (ParIsPlaced d.code) d.pars.items
