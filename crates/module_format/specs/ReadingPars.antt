-- Reading PAR rows.
use Rattle.std.specs.Prelude.{ℕ, zero, suc, ◌+◌, ℤ, pos, int_lt, int_le, nat_lt, nat_le, ◌==◌, ◌&&◌, ◌||◌, not, Bool}
use Rattle.std.specs.Prelude.{if◌then◌else◌, List, length, unsigned_abs, Ok}
use Rattle.std.specs.List.{list_any}
use Rattle.module_format.specs.declared.tags.TheConstants.{END_PARAMETER, END_LINK, DIRECTION_IN, DIRECTION_OUT}
use Rattle.module_format.specs.declared.fault.FormatFaultKind.TheVariants as faults
use Rattle.module_format.specs.declared.rows.ChannelRow.{ChannelRow}
use Rattle.module_format.specs.declared.rows.Interval.{Interval}
use Rattle.module_format.specs.declared.rows.EndKind.{EndKind}
use Rattle.module_format.specs.declared.rows.EndKind.TheVariants as ends
use Rattle.module_format.specs.declared.rows.Direction.{Direction}
use Rattle.module_format.specs.declared.rows.Direction.TheVariants as directions
use Rattle.module_format.specs.declared.rows.EndRow.{EndRow}
use Rattle.module_format.specs.declared.rows.EndKey.{EndKey}
use Rattle.module_format.specs.declared.rows.BranchCounts.{BranchCounts}
use Rattle.module_format.specs.declared.limits.TheConstants.{MAX_BRANCHES, MAX_MESSAGE}
use Rattle.module_format.specs.Order.{least_word}
use Rattle.module_format.specs.Contents.{Branch, counts_with, branch_with, Par, par_with}
use Rattle.module_format.specs.Pars.{behind_channel, behind_interval, intervals_meet, behind_number, first_key}
use Rattle.module_format.specs.Pars.{behind_end}
use Rattle.module_format.specs.Pars.{Before, behind_branch, behind_par, no_branches}
use Rattle.module_format.specs.Reading.{◌>>=◌, Read, tested, place, number_at, int_at, limited_at, positive_at}
use Rattle.module_format.specs.Reading.{byte_taken}
use Rattle.module_format.specs.Reading.{in_code_at, list_at}
use Rattle.module_format.specs.ReadingRows.{first_word_at}

-- ---- channels and intervals

unfoldable pub channel_row_at : ℕ → ℤ → List ℕ → Read ChannelRow
channel_row_at size low rest = do
  word ← first_word_at size low rest
  len ← positive_at size MAX_MESSAGE word.1
  Ok (record { word = word.0; length = len.0 }, len.1)

-- the end of an interval, which is not empty
unfoldable pub interval_end_at : ℕ → ℤ → List ℕ → Read ℤ
interval_end_at size lo rest = tested (int_at size rest) (int_lt lo) faults.Range (place size rest)

-- frame words from `low` on
unfoldable pub frame_words_at : ℕ → ℤ → List ℕ → Read Interval
frame_words_at size low rest = do
  lo ← first_word_at size low rest
  hi ← interval_end_at size lo.0 lo.1
  Ok (record { lo = lo.0; hi = hi.0 }, hi.1)

-- words that are read, none of them one that is written
unfoldable pub read_words_at : ℕ → List Interval → ℤ → List ℕ → Read Interval
read_words_at size writes low rest =
    tested (frame_words_at size low rest) (λ i. not (list_any (intervals_meet i) writes)) faults.Order (place size rest)

-- ---- parameters and ends

-- the number of a parameter, from `low` on
unfoldable pub parameter_number_at : ℕ → ℕ → List ℕ → Read ℕ
parameter_number_at size low rest = tested (number_at size 2 rest) (nat_le low) faults.Order (place size rest)

-- a kind of end, which is not below that of the end before
unfoldable pub end_kind_at : ℕ → EndKey → List ℕ → Read ℕ
end_kind_at size before rest =
    let known = tested (byte_taken size rest) (λ kind. nat_le kind END_LINK) faults.Range (place size rest) in
    tested known (nat_le before.kind) faults.Order (place size rest)

-- a link has a number from 0 to 7
abbrev pub is_number_of : ℕ → ℤ → Bool
is_number_of kind number = nat_lt kind END_LINK || (int_le (pos 0) number && int_lt number (pos 8))

-- The number of an end: where all fields before it are those of the end before, it is not below that end's.
unfoldable pub end_number_at : ℕ → EndKey → ℕ → List ℕ → Read ℤ
end_number_at size before kind rest =
    let known = tested (int_at size rest) (is_number_of kind) faults.Range (place size rest) in
    tested known (λ number. not ((kind == before.kind) && int_lt number before.number)) faults.Order (place size rest)

-- the element of an end, of which only a parameter's has one
unfoldable pub end_element_at : ℕ → EndKey → ℕ → ℤ → List ℕ → Read ℕ
end_element_at size before kind number rest =
    let same = (kind == before.kind) && (int_le number before.number && int_le before.number number) in
    let is_known = λ (element : ℕ). (kind == END_PARAMETER) || (element == 0) in
    let known = tested (number_at size 4 rest) is_known faults.Range (place size rest) in
    tested known (λ element. not (same && nat_lt element before.element)) faults.Order (place size rest)

-- the direction of an end, by which it is above the end before where all other fields are the same
unfoldable pub end_direction_at : ℕ → EndKey → ℕ → ℤ → ℕ → List ℕ → Read ℕ
end_direction_at size before kind number element rest =
    let same = (kind == before.kind) && (int_le number before.number && int_le before.number number) in
    let is_known = λ (direction : ℕ). (direction == DIRECTION_IN) || (direction == DIRECTION_OUT) in
    let known = tested (byte_taken size rest) is_known faults.Range (place size rest) in
    let falls = λ (direction : ℕ). same && (element == before.element) && nat_le direction before.direction in
    tested known (λ direction. not (falls direction)) faults.Order (place size rest)

abbrev pub end_kind : ℕ → ℤ → ℕ → EndKind
end_kind zero number element = ends.FrameWord number
end_kind (suc zero) number element = ends.Parameter number element
end_kind (suc (suc n)) number element = ends.Link (unsigned_abs number)

abbrev pub direction_of : ℕ → Direction
direction_of n = if n == DIRECTION_IN then directions.In else directions.Out

unfoldable pub end_row_at : ℕ → EndKey → List ℕ → Read EndRow
end_row_at size before rest = do
  kind ← end_kind_at size before rest
  number ← end_number_at size before kind.0 kind.1
  element ← end_element_at size before kind.0 number.0 number.1
  direction ← end_direction_at size before kind.0 number.0 element.0 element.1
  Ok (record { kind = end_kind kind.0 number.0 element.0; direction = direction_of direction.0 }, direction.1)

-- ---- branches

-- the entry of a branch, after `low`, and no other's
unfoldable pub branch_entry_at : ℕ → ℕ → Before → List ℕ → Read ℕ
branch_entry_at size code_len before rest =
    let risen = tested (in_code_at size code_len rest) (nat_lt before.low) faults.Order (place size rest) in
    tested risen (λ entry. not (list_any (λ other. other == entry) before.entries)) faults.Range (place size rest)

-- how many intervals, parameters and ends a branch has
unfoldable pub branch_counts_at : ℕ → List ℕ → Read BranchCounts
branch_counts_at size rest = do
  writes ← number_at size 2 rest
  reads ← number_at size 2 writes.1
  written ← number_at size 2 reads.1
  read ← number_at size 2 written.1
  ends ← number_at size 2 read.1
  Ok (counts_with writes.0 reads.0 written.0 read.0 ends.0, ends.1)

unfoldable pub branch_row_at : ℕ → ℕ → Before → List ℕ → Read Branch
branch_row_at size code_len before rest = do
  entry ← branch_entry_at size code_len before rest
  workspace ← int_at size entry.1
  counts ← branch_counts_at size workspace.1
  writes ← list_at (frame_words_at size) behind_interval counts.0.writes least_word counts.1
  reads ← list_at (read_words_at size writes.0) behind_interval counts.0.reads least_word writes.1
  written ← list_at (parameter_number_at size) behind_number counts.0.written_parameters 0 reads.1
  read ← list_at (parameter_number_at size) behind_number counts.0.read_parameters 0 written.1
  ends ← list_at (end_row_at size) behind_end counts.0.ends first_key read.1
  Ok (branch_with entry.0 workspace.0 writes.0 reads.0 written.0 read.0 ends.0, ends.1)

-- ---- rows

-- the number of a context, below `count`
unfoldable pub context_number_at : ℕ → ℕ → List ℕ → Read ℕ
context_number_at size count rest =
    tested (number_at size 2 rest) (λ context. nat_lt context count) faults.Range (place size rest)

-- a number of branches, at least 1
unfoldable pub branch_count_at : ℕ → List ℕ → Read ℕ
branch_count_at size rest = tested (limited_at size 2 MAX_BRANCHES rest) (nat_le 1) faults.Range (place size rest)

unfoldable pub par_row_at : ℕ → ℕ → ℕ → Before → List ℕ → Read Par
par_row_at size own code_len before rest = do
  context ← context_number_at size (own + length before.entries) rest
  depth ← int_at size context.1
  block ← int_at size depth.1
  successor ← in_code_at size code_len block.1
  channel_count ← number_at size 2 successor.1
  branch_count ← branch_count_at size channel_count.1
  channels ← list_at (channel_row_at size) behind_channel channel_count.0 least_word branch_count.1
  branches ← list_at (branch_row_at size code_len) behind_branch branch_count.0 before channels.1
  Ok (par_with context.0 depth.0 block.0 successor.0 channels.0 branches.0, branches.1)

unfoldable pub par_rows_at : ℕ → ℕ → ℕ → ℕ → List ℕ → Read (List Par)
par_rows_at size own code_len count rest = list_at (par_row_at size own code_len) behind_par count no_branches rest
