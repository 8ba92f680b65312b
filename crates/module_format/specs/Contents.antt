-- What a module file says, as plain data of lists and numbers. The fields are those of the tables in
-- memory; facts, entries, parameters, channels, intervals, ends and table rows are the program's own types.
use Rattle.std.specs.Prelude.{ℕ, ◌^◌, ◌<◌, ℤ, Bool, List, map, length, find, get_or, Option, ◌==◌}
use Rattle.module_format.specs.Rows.{Fact}
use Rattle.module_format.specs.declared.stack.Stack.{Stack}
use Rattle.module_format.specs.declared.rows.Parameter.{Parameter}
use Rattle.module_format.specs.Rows.{Entry}
use Rattle.module_format.specs.declared.rows.ChannelRow.{ChannelRow}
use Rattle.module_format.specs.declared.rows.Interval.{Interval}
use Rattle.module_format.specs.declared.rows.EndRow.{EndRow}
use Rattle.module_format.specs.declared.rows.TableRow.{TableRow}
use Rattle.module_format.specs.Rows.{ProcedureRow}
use Rattle.module_format.specs.Rows.{LabelRow}
use Rattle.module_format.specs.Rows.{BranchRow}
use Rattle.module_format.specs.declared.rows.BranchCounts.{BranchCounts}
use Rattle.module_format.specs.Rows.{ParRow}
use Rattle.module_format.specs.declared.tables.Tables.{Tables}

-- a procedure: its entry, its frame words from lo up to hi, its number and its parameters
pub record Procedure : Type 0 where
  pub entry : ℕ
  pub lo : ℤ
  pub hi : ℤ
  pub number : ℕ
  pub parameters : List Parameter

-- what holds at a code offset
pub record Label : Type 0 where
  pub offset : ℕ
  pub context : ℕ
  pub depth : ℤ
  pub number : ℕ
  pub stack : Stack Fact
  pub entries : List Entry

-- a branch of a PAR
pub record Branch : Type 0 where
  pub entry : ℕ
  pub workspace : ℤ
  pub writes : List Interval
  pub reads : List Interval
  pub written_parameters : List ℕ
  pub read_parameters : List ℕ
  pub ends : List EndRow

-- how many intervals, parameters and ends a branch has
abbrev pub counts_with : ℕ → ℕ → ℕ → ℕ → ℕ → BranchCounts
counts_with writes reads written read ends =
    record { writes = writes; reads = reads; written_parameters = written; read_parameters = read; ends = ends }

abbrev pub counts_of : Branch → BranchCounts
counts_of b = counts_with
    (length b.writes) (length b.reads) (length b.written_parameters) (length b.read_parameters) (length b.ends)

-- each of these numbers is written in two bytes
pub record CountsFit (c : BranchCounts) : Type 0 where
  pub writes : c.writes < 2 ^ 16
  pub reads : c.reads < 2 ^ 16
  pub written_parameters : c.written_parameters < 2 ^ 16
  pub read_parameters : c.read_parameters < 2 ^ 16
  pub ends : c.ends < 2 ^ 16

-- a PAR
pub record Par : Type 0 where
  pub context : ℕ
  pub depth : ℤ
  pub block : ℤ
  pub successor : ℕ
  pub channels : List ChannelRow
  pub branches : List Branch

-- what a module file says
pub record Contents : Type 0 where
  pub code : List ℕ
  pub constants : List ℕ
  pub data_words : ℕ
  pub base : ℕ
  pub budget : ℕ
  pub finish : ℕ
  pub lengths : List ℕ
  pub has_long_operations : Bool
  pub procedures : List Procedure
  pub labels : List Label
  pub pars : List Par
  pub table_rows : List TableRow

-- the rows of these fields, and without where their lists lie in memory
abbrev pub procedure_of : ProcedureRow → Procedure
procedure_of row =
    record { entry = row.entry; lo = row.lo; hi = row.hi; number = row.number; parameters = row.parameters.items }

abbrev pub label_with : ℕ → ℕ → ℤ → ℕ → Stack Fact → List Entry → Label
label_with offset context depth number stack entries = record {
  offset = offset;
  context = context;
  depth = depth;
  number = number;
  stack = stack;
  entries = entries;
}

abbrev pub label_of : LabelRow → Label
label_of row = label_with row.offset row.context row.depth row.number row.stack row.entries.items

abbrev pub branch_with : ℕ → ℤ → List Interval → List Interval → List ℕ → List ℕ → List EndRow → Branch
branch_with entry workspace writes reads written read ends = record {
  entry = entry;
  workspace = workspace;
  writes = writes;
  reads = reads;
  written_parameters = written;
  read_parameters = read;
  ends = ends;
}

abbrev pub branch_of : BranchRow → Branch
branch_of row = branch_with row.entry row.workspace row.writes.items row.reads.items row.written_parameters.items
    row.read_parameters.items row.ends.items

abbrev pub par_with : ℕ → ℤ → ℤ → ℕ → List ChannelRow → List Branch → Par
par_with context depth block successor channels branches = record {
  context = context;
  depth = depth;
  block = block;
  successor = successor;
  channels = channels;
  branches = branches;
}

abbrev pub par_of : ParRow → Par
par_of row =
    par_with row.context row.depth row.block row.successor row.channels.items (map branch_of row.branches.items)

-- what tables in memory say
abbrev pub contents_of : Tables → Contents
contents_of t = record {
  code = t.code.now;
  constants = t.constants.now;
  data_words = t.data_words;
  base = t.base;
  budget = t.budget;
  finish = t.finish;
  lengths = t.lengths;
  has_long_operations = t.has_long_operations;
  procedures = map procedure_of t.procedures.items;
  labels = map label_of t.labels.items;
  pars = map par_of t.pars.items;
  table_rows = t.table_rows.items;
}

-- the label row at a code offset, where there is one
abbrev pub label_at : Contents → ℕ → Option Label
label_at c at = find (λ row. row.offset == at) c.labels

-- the bytes of a message on the link of this number: 0 to 3 the output links, 4 to 7 the input links;
-- 0 for a link that is not used
abbrev pub link_length : Contents → ℕ → ℕ
link_length c link = get_or c.lengths link 0
