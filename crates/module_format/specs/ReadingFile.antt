-- Reading a whole file.
use Rattle.std.specs.Prelude.{ℕ, ◌+◌, ◌^◌, ◌<◌, nat_eq, ◌==◌, Bool, false, if◌then◌else◌, List, [], ◌∷◌, length, drop}
use Rattle.std.specs.Prelude.{Result, Ok, Err}
use Rattle.std.specs.List.{starts_with, flat_map}
use Rattle.module_format.specs.declared.fault.FormatFault.{FormatFault}
use Rattle.module_format.specs.declared.fault.FormatFaultKind.TheVariants as faults
use Rattle.module_format.specs.declared.tables.Version.{Version}
use Rattle.module_format.specs.declared.tables.Version.TheVariants as versions
use Rattle.module_format.specs.declared.rows.TableRow.{TableRow}
use Rattle.module_format.specs.declared.limits.TheConstants.{MAX_CONSTANTS, MAX_DATA_WORDS, MAX_BUDGET, MAX_MESSAGE}
use Rattle.module_format.specs.declared.limits.TheConstants.{MAX_PROCEDURES, MAX_LABELS, MAX_PARS, MAX_TABLES}
use Rattle.module_format.specs.declared.reading.header.Sizes.{Sizes}
use Rattle.module_format.specs.declared.reading.header.RowCounts.{RowCounts}
use Rattle.module_format.specs.declared.reading.header.Header.{Header}
use Rattle.module_format.specs.Contents.{Procedure, Label, Par, Contents}
use Rattle.module_format.specs.Spelling.{magic_one, magic_two, label_bytes, par_bytes}
use Rattle.module_format.specs.Keeping.{max_code, LimitsKeep, RowsKeep}
use Rattle.module_format.specs.Reading.{◌>>=◌, Read, fault, place, limited_at, positive_at, at_most_at, bytes_taken}
use Rattle.module_format.specs.ReadingRows.{procedure_rows_at, label_rows_at, table_rows_at}
use Rattle.module_format.specs.ReadingPars.{par_rows_at}
use Rattle.module_format.specs.References.{references_at}

unfoldable pub magic_at : List ℕ → Read Version
magic_at bytes =
    if starts_with nat_eq bytes magic_one then Ok (versions.One, drop 4 bytes)
    else (if starts_with nat_eq bytes magic_two then Ok (versions.Two, drop 4 bytes) else Err (fault faults.Magic 0))

-- ---- the header

-- the sizes and bounds at the header's front
abbrev pub sizes_with : ℕ → ℕ → ℕ → ℕ → ℕ → ℕ → Sizes
sizes_with code constants words base budget finish = record {
  code_len = code;
  const_len = constants;
  data_words = words;
  base = base;
  budget = budget;
  finish = finish;
}

unfoldable pub sizes_at : ℕ → Version → List ℕ → Read Sizes
sizes_at size version rest = do
  code_len ← positive_at size (max_code version) rest
  const_len ← limited_at size 4 MAX_CONSTANTS code_len.1
  data_words ← positive_at size MAX_DATA_WORDS const_len.1
  base ← at_most_at size data_words.0 data_words.1
  budget ← limited_at size 8 MAX_BUDGET base.1
  finish ← at_most_at size code_len.0 budget.1
  Ok (sizes_with code_len.0 const_len.0 data_words.0 base.0 budget.0 finish.0, finish.1)

-- the message lengths of four links
unfoldable pub four_lengths_at : ℕ → List ℕ → Read (ℕ × ℕ × ℕ × ℕ)
four_lengths_at size rest = do
  first ← limited_at size 4 MAX_MESSAGE rest
  second ← limited_at size 4 MAX_MESSAGE first.1
  third ← limited_at size 4 MAX_MESSAGE second.1
  fourth ← limited_at size 4 MAX_MESSAGE third.1
  Ok ((first.0, second.0, third.0, fourth.0), fourth.1)

-- those of the output links and of the input links
unfoldable pub lengths_at : ℕ → List ℕ → Read (List ℕ)
lengths_at size rest = do
  out ← four_lengths_at size rest
  inp ← four_lengths_at size out.1
  Ok (out.0.0 ∷ out.0.1 ∷ out.0.2 ∷ out.0.3 ∷ inp.0.0 ∷ inp.0.1 ∷ inp.0.2 ∷ inp.0.3 ∷ [], inp.1)

-- 0 or 1
unfoldable pub flag_at : ℕ → List ℕ → Read Bool
flag_at size rest = do
  flag ← at_most_at size 1 rest
  Ok (flag.0 == 1, flag.1)

-- the flag and the number of table rows, which version 1 doesn't have
unfoldable pub extension_at : ℕ → Version → List ℕ → Read (Bool × ℕ)
extension_at size versions.One rest = Ok ((false, 0), rest)
extension_at size versions.Two rest = do
  flag ← flag_at size rest
  count ← limited_at size 4 MAX_TABLES flag.1
  Ok ((flag.0, count.0), count.1)

unfoldable pub counts_at : ℕ → Version → List ℕ → Read RowCounts
counts_at size version rest = do
  procedures ← limited_at size 4 MAX_PROCEDURES rest
  labels ← limited_at size 4 MAX_LABELS procedures.1
  pars ← limited_at size 4 MAX_PARS labels.1
  more ← extension_at size version pars.1
  Ok (
    record {
      procedures = procedures.0;
      labels = labels.0;
      pars = pars.0;
      has_long_operations = more.0.0;
      table_rows = more.0.1;
    },
    more.1,
  )

-- ---- the file

unfoldable pub header_at : List ℕ → Read Header
header_at bytes = do
  version ← magic_at bytes
  sizes ← sizes_at (length bytes) version.0 version.1
  lengths ← lengths_at (length bytes) sizes.1
  counts ← counts_at (length bytes) version.0 lengths.1
  Ok (record { version = version.0; sizes = sizes.0; lengths = lengths.0; counts = counts.0 }, counts.1)

-- what the header says, with the code, the constants and the rows
abbrev pub contents_from : Header → List ℕ → List ℕ → List Procedure → List Label → List Par → List TableRow → Contents
contents_from h code constants procedures labels pars table_rows = record {
  code = code;
  constants = constants;
  data_words = h.sizes.data_words;
  base = h.sizes.base;
  budget = h.sizes.budget;
  finish = h.sizes.finish;
  lengths = h.lengths;
  has_long_operations = h.counts.has_long_operations;
  procedures = procedures;
  labels = labels;
  pars = pars;
  table_rows = table_rows;
}

-- the contents whose label rows began at `at`, where `rest` is what follows the last row
unfoldable pub ended_at : ℕ → ℕ → Contents → List ℕ → Result Contents FormatFault
ended_at size at c rest = do
  _ ← references_at at c
  if length rest == 0 then Ok c else Err (fault faults.LeftOver (place size rest))

-- the code, the constants and the rows, with the place of the label rows
unfoldable pub tables_at : ℕ → Header → List ℕ → Read (Contents × ℕ)
tables_at size h rest = do
  code ← bytes_taken size h.sizes.code_len rest
  constants ← bytes_taken size h.sizes.const_len code.1
  procedures ← procedure_rows_at size h.version h.sizes.code_len h.counts.procedures constants.1
  labels ← label_rows_at size h.sizes.code_len procedures.0 h.counts.labels procedures.1
  pars ← par_rows_at size (1 + length procedures.0) h.sizes.code_len h.counts.pars labels.1
  tables ← table_rows_at size constants.0 h.counts.table_rows pars.1
  Ok ((contents_from h code.0 constants.0 procedures.0 labels.0 pars.0 tables.0, place size procedures.1), tables.1)

-- Contents whose label rows begin at `at` can be looked at again.
pub record IsReady (at : ℕ) (c : Contents) : Type 0 where
  pub fits : at + length (flat_map label_bytes c.labels) + length (flat_map par_bytes c.pars) < 2 ^ 64
  pub limits : LimitsKeep c
  pub rows : RowsKeep c

-- the version of a file and what it says, or its first fault
unfoldable pub read_file : List ℕ → Result (Version × Contents) FormatFault
read_file bytes = do
  h ← header_at bytes
  t ← tables_at (length bytes) h.0 h.1
  c ← ended_at (length bytes) t.0.1 t.0.0 t.1
  Ok (h.0.version, c)

-- what a file says, or its first fault
unfoldable pub read_contents : List ℕ → Result Contents FormatFault
read_contents bytes = do
  file ← read_file bytes
  Ok file.1
