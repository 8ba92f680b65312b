-- The rules of the format, on what a file says, and which contents a file has.
use Rattle.std.specs.Prelude.{◌≡◌, ⊤, ℕ, ◌+◌, ◌<◌, ◌≤◌, pos, negsuc, ◌≤ℤ◌, Bool, true, false, nat_lt, IsTrue, List, []}
use Rattle.std.specs.Prelude.{length, slice_get, Some, None, MatchOption}
use Rattle.std.specs.List.{AllByRecursion}
use Rattle.module_format.specs.Rows.{Fact}
use Rattle.module_format.specs.declared.fact.Fact.TheVariants as facts
use Rattle.module_format.specs.Rows.{Entry}
use Rattle.module_format.specs.Regions.{region_number}
use Rattle.module_format.specs.declared.rows.Parameter.{Parameter}
use Rattle.module_format.specs.declared.rows.ParameterKind.{ParameterKind}
use Rattle.module_format.specs.declared.rows.ParameterKind.TheVariants as kinds
use Rattle.module_format.specs.declared.rows.EndKind.{EndKind}
use Rattle.module_format.specs.declared.rows.EndKind.TheVariants as ends
use Rattle.module_format.specs.declared.rows.EndRow.{EndRow}
use Rattle.module_format.specs.declared.tables.Version.{Version}
use Rattle.module_format.specs.declared.tables.Version.TheVariants as versions
use Rattle.module_format.specs.declared.limits.TheConstants.{MAX_CODE, MAX_LONG_CODE, MAX_CONSTANTS, MAX_DATA_WORDS}
use Rattle.module_format.specs.declared.limits.TheConstants.{MAX_BUDGET, MAX_MESSAGE, MAX_PROCEDURES, MAX_LABELS}
use Rattle.module_format.specs.declared.limits.TheConstants.{MAX_PARS, MAX_TABLES}
use Rattle.module_format.specs.Order.{IsBytes, InOrder}
use Rattle.module_format.specs.Contents.{Label, Branch, Par, Contents}
use Rattle.module_format.specs.Facts.{LabelKeeps, behind_label, end_of}
use Rattle.module_format.specs.Procedures.{ProcedureKeeps, behind_procedure, ProcedureFits, TableKeeps, behind_table}
use Rattle.module_format.specs.Pars.{ParKeeps, behind_par, no_branches}
use Rattle.module_format.specs.Spelling.{file_of}
use Rattle.module_format.specs.declared.contexts.Context.{Context}
use Rattle.module_format.specs.Contexts.{context_at, first_branch, parameters_at}

-- ---- what rows name is there

-- A pointer's region is there: the frame and the constants are, and what a parameter names whatever its kind.
abbrev pub FactFits : ℕ → Fact → Type 0
FactFits parameters facts.Unknown = ⊤
FactFits parameters (facts.Number lo hi) = ⊤
FactFits parameters (facts.Pointer region lo hi step) = region_number region < 2 + parameters
FactFits parameters (facts.CodeAddress offset) = ⊤
FactFits parameters (facts.Loop base count weight) = ⊤
FactFits parameters facts.ReturnAddress = ⊤

-- the entry's words lie in the frame
pub record EntryFits (context : Context) (e : Entry) : Type 0 where
  pub low : context.lo ≤ℤ e.word
  pub high : end_of e ≤ℤ context.hi
  pub fact : FactFits context.parameters e.fact

-- what a label row says is there in its context
pub record RowFits (row : Label) (context : Context) : Type 0 where
  pub a : FactFits context.parameters row.stack.a
  pub b : FactFits context.parameters row.stack.b
  pub c : FactFits context.parameters row.stack.c
  pub entries : AllByRecursion (EntryFits context) row.entries

-- the row's context is there, and what the row says is there in it
abbrev pub LabelFits : Contents → Label → Type 0
LabelFits contents row = MatchOption (context_at contents row.context) ⊥ (RowFits row)

abbrev pub is_region : ParameterKind → Bool
is_region (kinds.Value lo hi) = false
is_region (kinds.ReadRegion size lo hi) = true
is_region (kinds.WrittenRegion size lo hi) = true
is_region (kinds.Channels count len ends) = false

-- channels of which one has this number
abbrev pub has_element : ℕ → ParameterKind → Bool
has_element element (kinds.Value lo hi) = false
has_element element (kinds.ReadRegion size lo hi) = false
has_element element (kinds.WrittenRegion size lo hi) = false
has_element element (kinds.Channels count len ends) = nat_lt element count

-- parameter j is there, and of such a kind
abbrev pub names : (ParameterKind → Bool) → List Parameter → ℕ → Bool
names is_such parameters j = elim (slice_get parameters j) [ None ↦ false | Some p ↦ is_such p.kind ]

-- the parameter that an end belongs to has that channel
abbrev pub end_is_there : List Parameter → EndKind → Bool
end_is_there parameters (ends.FrameWord word) = true
end_is_there parameters (ends.Parameter (pos j) element) = names (has_element element) parameters j
end_is_there parameters (ends.Parameter (negsuc n) element) = false
end_is_there parameters (ends.Link link) = true

-- what a branch is given of its context's parameters is there
pub record BranchFits (parameters : List Parameter) (b : Branch) : Type 0 where
  pub written : AllByRecursion (λ j. IsTrue (names is_region parameters j)) b.written_parameters
  pub read : AllByRecursion (λ j. IsTrue (names is_region parameters j)) b.read_parameters
  pub ends : AllByRecursion (λ (e : EndRow). IsTrue (end_is_there parameters e.kind)) b.ends

abbrev pub ParFits : Contents → Par → Type 0
ParFits contents row = AllByRecursion (BranchFits (parameters_at contents row.context)) row.branches

-- ---- the whole

-- bytes of code
abbrev pub max_code : Version → ℕ
max_code versions.One = MAX_CODE
max_code versions.Two = MAX_LONG_CODE

-- the numbers of the code, the constants and the data area
pub record SizesKeep (c : Contents) : Type 0 where
  pub has_code : 1 ≤ length c.code
  pub code_limit : length c.code ≤ MAX_LONG_CODE
  pub constants_limit : length c.constants ≤ MAX_CONSTANTS
  pub has_data : 1 ≤ c.data_words
  pub data_limit : c.data_words ≤ MAX_DATA_WORDS
  pub base : c.base ≤ c.data_words

-- the other numbers of the header
pub record BoundsKeep (c : Contents) : Type 0 where
  pub budget : c.budget ≤ MAX_BUDGET
  pub finish : c.finish ≤ length c.code
  pub eight : length c.lengths ≡ 8
  pub lengths : AllByRecursion (λ n. n ≤ MAX_MESSAGE) c.lengths

-- the numbers of rows
pub record LimitsKeep (c : Contents) : Type 0 where
  pub procedures : length c.procedures ≤ MAX_PROCEDURES
  pub labels : length c.labels ≤ MAX_LABELS
  pub pars : length c.pars ≤ MAX_PARS
  pub table_rows : length c.table_rows ≤ MAX_TABLES

-- the rows, each by itself
pub record RowsKeep (c : Contents) : Type 0 where
  pub procedures : InOrder (ProcedureKeeps (length c.code)) behind_procedure 0 c.procedures
  pub labels : InOrder (LabelKeeps (length c.code) c.procedures) behind_label 0 c.labels
  pub pars : InOrder (ParKeeps (first_branch c) (length c.code)) behind_par no_branches c.pars
  pub table_rows : InOrder (TableKeeps c.constants) behind_table 0 c.table_rows

-- what the rows name is there
pub record NamesAreThere (c : Contents) : Type 0 where
  pub labels : AllByRecursion (LabelFits c) c.labels
  pub pars : AllByRecursion (ParFits c) c.pars

-- contents that keep the rules of the format, which are those of version 2
pub record Keeps (c : Contents) : Type 0 where
  pub sizes : SizesKeep c
  pub bounds : BoundsKeep c
  pub limits : LimitsKeep c
  pub code_bytes : IsBytes c.code
  pub constant_bytes : IsBytes c.constants
  pub rows : RowsKeep c
  pub names : NamesAreThere c

-- What version 1 asks besides: it has less code, no long operations, no ranges of regions and no table rows.
pub record FitsFirst (c : Contents) : Type 0 where
  pub code : length c.code ≤ MAX_CODE
  pub flag : c.has_long_operations ≡ false
  pub ranges : AllByRecursion (ProcedureFits versions.One) c.procedures
  pub table_rows : c.table_rows ≡ []

-- valid contents that a version can say
abbrev pub FitsVersion : Version → Contents → Type 0
FitsVersion versions.One c = FitsFirst c
FitsVersion versions.Two c = ⊤

-- This file is the one spelling of these contents in a version. They are valid, and fit the version.
pub record IsFile (version : Version) (bytes : List ℕ) (c : Contents) : Type 0 where
  pub spelled : bytes ≡ file_of version c
  pub keeps : Keeps c
  pub fits : FitsVersion version c

-- The first file is of version 1, and the second is that of the same contents in version 2.
pub record IsUpgraded (old new : List ℕ) : Type 0 where
  pub contents : Contents
  pub before : IsFile versions.One old contents
  pub after : IsFile versions.Two new contents

-- This file is one of these contents, in one of the versions.
pub record Format (bytes : List ℕ) (c : Contents) : Type 0 where
  pub version : Version
  pub file : IsFile version bytes c
