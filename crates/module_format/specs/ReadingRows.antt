-- Reading facts, procedure rows, label rows and table rows.
use Rattle.std.specs.Prelude.{ℕ, ◌-◌, ℤ, pos, int_lt, int_le, nat_lt, nat_le, Bool, ◌==◌, ◌&&◌, not, if◌then◌else◌}
use Rattle.std.specs.Prelude.{List, length, take, drop, Ok, Err}
use Rattle.std.specs.List.{list_any, list_all}
use Rattle.module_format.specs.declared.tags.TheConstants.{TAG_UNKNOWN, TAG_NUMBER, TAG_POINTER, TAG_CODE_ADDRESS}
use Rattle.module_format.specs.declared.tags.TheConstants.{TAG_LOOP, TAG_RETURN_ADDRESS}
use Rattle.module_format.specs.declared.tags.TheConstants.{KIND_VALUE, KIND_READ_REGION, KIND_WRITTEN_REGION}
use Rattle.module_format.specs.declared.tags.TheConstants.{KIND_CHANNELS}
use Rattle.module_format.specs.declared.fault.FormatFaultKind.TheVariants as faults
use Rattle.module_format.specs.Rows.{Fact}
use Rattle.module_format.specs.declared.fact.Fact.TheVariants as facts
use Rattle.module_format.specs.declared.fact.Region.{Region}
use Rattle.module_format.specs.declared.fact.Step.{Step}
use Rattle.module_format.specs.declared.fact.Step.TheVariants as steps
use Rattle.module_format.specs.declared.stack.Stack.{Stack}
use Rattle.module_format.specs.Rows.{Entry}
use Rattle.module_format.specs.Regions.{region_numbered}
use Rattle.module_format.specs.declared.rows.Ends.{Ends}
use Rattle.module_format.specs.declared.rows.Parameter.{Parameter}
use Rattle.module_format.specs.declared.rows.ParameterKind.{ParameterKind}
use Rattle.module_format.specs.declared.rows.ParameterKind.TheVariants as kinds
use Rattle.module_format.specs.declared.rows.TableRow.{TableRow}
use Rattle.module_format.specs.declared.reading.procedures.Access.{Access}
use Rattle.module_format.specs.declared.reading.procedures.Access.TheVariants as accesses
use Rattle.module_format.specs.declared.tables.Version.{Version}
use Rattle.module_format.specs.declared.tables.Version.TheVariants as versions
use Rattle.module_format.specs.declared.limits.TheConstants.{MAX_PARAMETERS, MAX_MESSAGE}
use Rattle.module_format.specs.Order.{least_word, greatest_word, is_multiple_of_four, is_stepped}
use Rattle.module_format.specs.Contents.{Procedure, Label, label_with}
use Rattle.module_format.specs.Facts.{is_loop_length, behind_entry, behind_label}
use Rattle.module_format.specs.Procedures.{is_region_size, are_ends, is_frame_start, is_frame_end, behind_parameter}
use Rattle.module_format.specs.Procedures.{behind_procedure, words_in_bytes, behind_table}
use Rattle.module_format.specs.Reading.{◌>>=◌, Read, tested, fault, place, number_at, int_at, limited_at, positive_at}
use Rattle.module_format.specs.Reading.{at_most_at, byte_taken, in_code_at, interval_at, list_at}

-- ---- facts

unfoldable pub number_fact_at : ℕ → List ℕ → Read Fact
number_fact_at size rest = do
  range ← interval_at size rest
  Ok (facts.Number range.0.0 range.0.1, range.1)

-- a step of 1, or of 4 where both bounds are multiples of it
unfoldable pub step_at : ℕ → ℤ → ℤ → List ℕ → Read Step
step_at size lo hi rest = do
  step ← byte_taken size rest
  if step.0 == 1 then Ok (steps.Byte, step.1)
      else (if (step.0 == 4) && is_stepped lo && is_stepped hi then Ok (steps.Word, step.1)
      else Err (fault faults.Range (place size rest)))

-- the region that a pointer leads to, by its number
unfoldable pub pointed_at : ℕ → List ℕ → Read Region
pointed_at size rest = do
  number ← number_at size 2 rest
  Ok (region_numbered number.0, number.1)

unfoldable pub pointer_at : ℕ → List ℕ → Read Fact
pointer_at size rest = do
  region ← pointed_at size rest
  range ← interval_at size region.1
  step ← step_at size range.0.0 range.0.1 range.1
  Ok (facts.Pointer region.0 range.0.0 range.0.1 step.0, step.1)

unfoldable pub code_address_at : ℕ → ℕ → List ℕ → Read Fact
code_address_at size code_len rest = do
  offset ← at_most_at size code_len rest
  Ok (facts.CodeAddress offset.0, offset.1)

-- how often a loop turns: its last index is a word
unfoldable pub count_at : ℕ → ℤ → List ℕ → Read ℕ
count_at size base rest = tested (number_at size 4 rest) (is_loop_length base) faults.Range (place size rest)

unfoldable pub loop_at : ℕ → List ℕ → Read Fact
loop_at size rest = do
  base ← int_at size rest
  count ← count_at size base.0 base.1
  weight ← number_at size 8 count.1
  Ok (facts.Loop base.0 count.0 weight.0, weight.1)

-- a fact that registers and words have alike, after its tag at an offset
unfoldable pub fact_at : ℕ → ℕ → ℕ → ℕ → List ℕ → Read Fact
fact_at size code_len at tag rest =
    if tag == TAG_NUMBER then number_fact_at size rest
    else (if tag == TAG_POINTER then pointer_at size rest
    else (if tag == TAG_CODE_ADDRESS then code_address_at size code_len rest else Err (fault faults.Range at)))

-- a fact of a register
unfoldable pub register_at : ℕ → ℕ → List ℕ → Read Fact
register_at size code_len rest = do
  tag ← byte_taken size rest
  if tag.0 == TAG_UNKNOWN then Ok (facts.Unknown, tag.1) else fact_at size code_len (place size rest) tag.0 tag.1

-- a fact of `span` frame words
unfoldable pub word_fact_at : ℕ → ℕ → ℕ → List ℕ → Read Fact
word_fact_at size code_len span rest = do
  tag ← byte_taken size rest
  if (tag.0 == TAG_LOOP) && (span == 2) then loop_at size tag.1
      else (if (tag.0 == TAG_RETURN_ADDRESS) && (span == 1) then Ok (facts.ReturnAddress, tag.1)
      else fact_at size code_len (place size rest) tag.0 tag.1)

-- ---- entries and label rows

-- a frame word that no item before has: those end at word `low`
unfoldable pub first_word_at : ℕ → ℤ → List ℕ → Read ℤ
first_word_at size low rest = tested (int_at size rest) (int_le low) faults.Order (place size rest)

-- a number of words, at least 1
unfoldable pub span_at : ℕ → List ℕ → Read ℕ
span_at size rest = tested (number_at size 4 rest) (nat_le 1) faults.Range (place size rest)

unfoldable pub entry_at : ℕ → ℕ → ℤ → List ℕ → Read Entry
entry_at size code_len low rest = do
  word ← first_word_at size low rest
  span ← span_at size word.1
  fact ← word_fact_at size code_len span.0 span.1
  Ok (record { word = word.0; span = span.0; fact = fact.0 }, fact.1)

-- the entries of a label row, after their number
unfoldable pub entries_at : ℕ → ℕ → List ℕ → Read (List Entry)
entries_at size code_len rest = do
  count ← number_at size 2 rest
  list_at (entry_at size code_len) behind_entry count.0 least_word count.1

-- the offset of a label row: no procedure's entry, and after the row before, whose offset is `low`
unfoldable pub label_offset_at : ℕ → ℕ → List Procedure → ℕ → List ℕ → Read ℕ
label_offset_at size code_len procedures low rest =
    let begins = λ (offset : ℕ). list_any (λ p. p.entry == offset) procedures in
    let free = tested (in_code_at size code_len rest) (λ offset. not (begins offset)) faults.Range (place size rest) in
    tested free (nat_lt low) faults.Order (place size rest)

-- the facts of A, B and C
unfoldable pub registers_at : ℕ → ℕ → List ℕ → Read (Stack Fact)
registers_at size code_len rest = do
  a ← register_at size code_len rest
  b ← register_at size code_len a.1
  c ← register_at size code_len b.1
  Ok (record { a = a.0; b = b.0; c = c.0 }, c.1)

unfoldable pub label_row_at : ℕ → ℕ → List Procedure → ℕ → List ℕ → Read Label
label_row_at size code_len procedures low rest = do
  offset ← label_offset_at size code_len procedures low rest
  context ← number_at size 2 offset.1
  depth ← int_at size context.1
  number ← number_at size 8 depth.1
  stack ← registers_at size code_len number.1
  entries ← entries_at size code_len stack.1
  Ok (label_with offset.0 context.0 depth.0 number.0 stack.0 entries.0, entries.1)

unfoldable pub label_rows_at : ℕ → ℕ → List Procedure → ℕ → List ℕ → Read (List Label)
label_rows_at size code_len procedures count rest =
    list_at (label_row_at size code_len procedures) behind_label count 0 rest

-- ---- procedure rows

-- the range of a region's words, which is the whole word in version 1
unfoldable pub words_range_at : ℕ → Version → List ℕ → Read (ℤ × ℤ)
words_range_at size versions.One rest = Ok ((least_word, greatest_word), rest)
words_range_at size versions.Two rest = interval_at size rest

-- the bytes of a region of words
unfoldable pub region_size_at : ℕ → List ℕ → Read ℕ
region_size_at size rest = tested (number_at size 4 rest) is_region_size faults.Range (place size rest)

-- the kind of a parameter that names a region
abbrev pub region_kind : Access → ℕ → ℤ → ℤ → ParameterKind
region_kind accesses.Read = kinds.ReadRegion
region_kind accesses.Write = kinds.WrittenRegion

-- a region that is read, or one that is written
unfoldable pub region_at : ℕ → Version → (ℕ → ℤ → ℤ → ParameterKind) → List ℕ → Read ParameterKind
region_at size version kind rest = do
  bytes ← region_size_at size rest
  range ← words_range_at size version bytes.1
  Ok (kind bytes.0 range.0.0 range.0.1, range.1)

-- one end or both
unfoldable pub ends_at : ℕ → List ℕ → Read Ends
ends_at size rest = do
  bits ← tested (byte_taken size rest) are_ends faults.Range (place size rest)
  Ok (record { 0 = bits.0 }, bits.1)

-- a number of channels, at least 1
unfoldable pub channels_at : ℕ → List ℕ → Read ParameterKind
channels_at size rest = do
  count ← span_at size rest
  len ← positive_at size MAX_MESSAGE count.1
  ends ← ends_at size len.1
  Ok (kinds.Channels count.0 len.0 ends.0, ends.1)

unfoldable pub value_at : ℕ → List ℕ → Read ParameterKind
value_at size rest = do
  range ← interval_at size rest
  Ok (kinds.Value range.0.0 range.0.1, range.1)

unfoldable pub kind_at : ℕ → Version → List ℕ → Read ParameterKind
kind_at size version rest = do
  kind ← byte_taken size rest
  if kind.0 == KIND_VALUE then value_at size kind.1
      else (if kind.0 == KIND_READ_REGION then region_at size version kinds.ReadRegion kind.1
      else (if kind.0 == KIND_WRITTEN_REGION then region_at size version kinds.WrittenRegion kind.1
      else (if kind.0 == KIND_CHANNELS then channels_at size kind.1 else Err (fault faults.Range (place size rest)))))

-- the word of a parameter: below word `hi`, and after the parameter before, in word `low`
unfoldable pub parameter_word_at : ℕ → ℤ → ℕ → List ℕ → Read ℕ
parameter_word_at size hi low rest =
    let is_inside = λ (word : ℕ). nat_le 1 word && int_lt (pos word) hi in
    let inside = tested (number_at size 2 rest) is_inside faults.Range (place size rest) in
    tested inside (nat_lt low) faults.Order (place size rest)

unfoldable pub parameter_at : ℕ → Version → ℤ → ℕ → List ℕ → Read Parameter
parameter_at size version hi low rest = do
  word ← parameter_word_at size hi low rest
  kind ← kind_at size version word.1
  Ok (record { word = word.0; kind = kind.0 }, kind.1)

unfoldable pub parameter_rows_at : ℕ → Version → ℤ → List ℕ → Read (List Parameter)
parameter_rows_at size version hi rest = do
  count ← limited_at size 2 MAX_PARAMETERS rest
  list_at (parameter_at size version hi) behind_parameter count.0 0 count.1

-- the first word of a frame, and the first word after it
unfoldable pub frame_start_at : ℕ → List ℕ → Read ℤ
frame_start_at size rest = tested (int_at size rest) is_frame_start faults.Range (place size rest)

unfoldable pub frame_end_at : ℕ → List ℕ → Read ℤ
frame_end_at size rest = tested (int_at size rest) is_frame_end faults.Range (place size rest)

-- an offset in the code that isn't its first, after `low`
unfoldable pub rising_at : ℕ → ℕ → ℕ → List ℕ → Read ℕ
rising_at size code_len low rest = tested (in_code_at size code_len rest) (nat_lt low) faults.Order (place size rest)

unfoldable pub procedure_row_at : ℕ → Version → ℕ → ℕ → List ℕ → Read Procedure
procedure_row_at size version code_len low rest = do
  entry ← rising_at size code_len low rest
  lo ← frame_start_at size entry.1
  hi ← frame_end_at size lo.1
  number ← number_at size 8 hi.1
  parameters ← parameter_rows_at size version hi.0 number.1
  Ok (record { entry = entry.0; lo = lo.0; hi = hi.0; number = number.0; parameters = parameters.0 }, parameters.1)

unfoldable pub procedure_rows_at : ℕ → Version → ℕ → ℕ → List ℕ → Read (List Procedure)
procedure_rows_at size version code_len count rest =
    list_at (procedure_row_at size version code_len) behind_procedure count 0 rest

-- ---- table rows

-- the first byte of a table, after those that end at `low`
unfoldable pub table_start_at : ℕ → ℕ → List ℕ → Read ℕ
table_start_at size low rest =
    let aligned = tested (number_at size 4 rest) is_multiple_of_four faults.Range (place size rest) in
    tested aligned (nat_le low) faults.Order (place size rest)

-- the end of a table in `const_len` bytes of constants
unfoldable pub table_end_at : ℕ → ℕ → ℕ → List ℕ → Read ℕ
table_end_at size const_len start rest =
    let is_inside = λ (end : ℕ). is_multiple_of_four end && nat_lt start end && nat_le end const_len in
    tested (number_at size 4 rest) is_inside faults.Range (place size rest)

-- the word lies from lo to hi
abbrev pub lies_between : ℤ → ℤ → ℤ → Bool
lies_between lo hi word = int_le lo word && int_le word hi

-- the words of the constants from byte `start` up to byte `end` lie in a range
abbrev pub words_lie_in : List ℕ → ℕ → ℕ → ℤ × ℤ → Bool
words_lie_in constants start end range =
    list_all (lies_between range.0 range.1) (words_in_bytes (take (end - start) (drop start constants)))

unfoldable pub table_row_at : ℕ → List ℕ → ℕ → List ℕ → Read TableRow
table_row_at size constants low rest = do
  start ← table_start_at size low rest
  end ← table_end_at size (length constants) start.0 start.1
  range ← tested (interval_at size end.1) (words_lie_in constants start.0 end.0) faults.Range (place size end.1)
  Ok (record { start = start.0; end = end.0; lo = range.0.0; hi = range.0.1 }, range.1)

unfoldable pub table_rows_at : ℕ → List ℕ → ℕ → List ℕ → Read (List TableRow)
table_rows_at size constants count rest = list_at (table_row_at size constants) behind_table count 0 rest
