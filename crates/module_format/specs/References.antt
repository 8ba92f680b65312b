-- References, which are checked once all rows are read, in the order of the file: whether what the rows name is there.
use Rattle.std.specs.Prelude.{⊤, ℕ, ◌+◌, int_lt, nat_lt, if◌then◌else◌, List, [], ◌∷◌, length, Option, Some, None}
use Rattle.std.specs.Prelude.{Result, Ok, Err}
use Rattle.std.specs.List.{flat_map}
use Rattle.module_format.specs.declared.row_sizes.TheConstants.{TAG_SIZE, COUNT_SIZE, ENTRY_HEAD_SIZE}
use Rattle.module_format.specs.declared.row_sizes.TheConstants.{LABEL_OFFSET_SIZE, LABEL_HEAD_SIZE, PAR_HEAD_SIZE}
use Rattle.module_format.specs.declared.row_sizes.TheConstants.{BRANCH_HEAD_SIZE}
use Rattle.module_format.specs.declared.fault.FormatFault.{FormatFault}
use Rattle.module_format.specs.declared.fault.FormatFaultKind.TheVariants as faults
use Rattle.module_format.specs.Rows.{Fact}
use Rattle.module_format.specs.declared.fact.Fact.TheVariants as facts
use Rattle.module_format.specs.Rows.{Entry}
use Rattle.module_format.specs.Regions.{region_number}
use Rattle.module_format.specs.declared.rows.EndRow.{EndRow}
use Rattle.module_format.specs.declared.rows.Parameter.{Parameter}
use Rattle.module_format.specs.declared.contexts.Context.{Context}
use Rattle.module_format.specs.Contents.{Label, Branch, Par, Contents}
use Rattle.module_format.specs.Spelling.{u16_bytes, fact_bytes, entry_bytes, label_bytes, channel_bytes, interval_bytes}
use Rattle.module_format.specs.Spelling.{end_bytes, branch_bytes, par_bytes}
use Rattle.module_format.specs.Contexts.{context_at, parameters_at}
use Rattle.module_format.specs.Facts.{end_of}
use Rattle.module_format.specs.Keeping.{is_region, names, end_is_there}
use Rattle.module_format.specs.Reading.{◌>>=◌, fault}

abbrev pub is_without_fault : Result ⊤ FormatFault
is_without_fault = Ok tt

-- each item in turn, where `at` is the place of the first and spelled gives the bytes of one
unfoldable pub list_references : {A : Type 0} → (ℕ → A → Result ⊤ FormatFault) → (A → List ℕ) → ℕ → List A
    → Result ⊤ FormatFault
list_references item spelled at [] = is_without_fault
list_references item spelled at (x ∷ xs) = do
  _ ← item at x
  list_references item spelled (at + length (spelled x)) xs

-- ---- label rows

-- a pointer's region is there; `at` is the place of the fact, and its region is after the tag
unfoldable pub fact_references : ℕ → ℕ → Fact → Result ⊤ FormatFault
fact_references parameters at facts.Unknown = is_without_fault
fact_references parameters at (facts.Number lo hi) = is_without_fault
fact_references parameters at (facts.Pointer region lo hi step) =
    if nat_lt (region_number region) (2 + parameters) then is_without_fault else Err
    (fault faults.Range (at + TAG_SIZE))
fact_references parameters at (facts.CodeAddress offset) = is_without_fault
fact_references parameters at (facts.Loop base count weight) = is_without_fault
fact_references parameters at facts.ReturnAddress = is_without_fault

-- an entry's words lie in the frame; `at` is the place of the entry, and its fact is 8 bytes after it
unfoldable pub entry_references : Context → ℕ → Entry → Result ⊤ FormatFault
entry_references context at e =
    if int_lt e.word context.lo then Err (fault faults.Range at)
    else (if int_lt context.hi (end_of e) then Err (fault faults.Range at) else fact_references context.parameters
    (at + ENTRY_HEAD_SIZE) e.fact)

-- what a label row says is there in its context; the facts are 18 bytes after the row's place, and the entries after
-- them and their number
unfoldable pub row_references : Context → ℕ → Label → Result ⊤ FormatFault
row_references context at row =
    let at_a = at + LABEL_HEAD_SIZE in
    let at_b = at_a + length (fact_bytes row.stack.a) in
    let at_c = at_b + length (fact_bytes row.stack.b) in do
      _ ← fact_references context.parameters at_a row.stack.a
      _ ← fact_references context.parameters at_b row.stack.b
      _ ← fact_references context.parameters at_c row.stack.c
      list_references (entry_references context) entry_bytes
          (at_c + length (fact_bytes row.stack.c) + COUNT_SIZE) row.entries

-- a label's context is there; its number is 4 bytes after the row's place
abbrev pub references_in : Option Context → ℕ → Label → Result ⊤ FormatFault
references_in None at row = Err (fault faults.Range (at + LABEL_OFFSET_SIZE))
references_in (Some context) at row = row_references context at row

unfoldable pub label_references : Contents → ℕ → Label → Result ⊤ FormatFault
label_references c at row = references_in (context_at c row.context) at row

-- ---- PAR rows

-- a parameter that a branch is given is a region
unfoldable pub parameter_references : List Parameter → ℕ → ℕ → Result ⊤ FormatFault
parameter_references parameters at j = if names is_region parameters j then is_without_fault else Err
    (fault faults.Range at)

-- the parameter that an end belongs to has that channel; its number is after the kind
unfoldable pub end_references : List Parameter → ℕ → EndRow → Result ⊤ FormatFault
end_references parameters at e = if end_is_there parameters e.kind then is_without_fault else Err
    (fault faults.Range (at + TAG_SIZE))

-- what a branch is given is there; its intervals are 18 bytes after its place, and the parameters and ends after
-- them
unfoldable pub branch_references : List Parameter → ℕ → Branch → Result ⊤ FormatFault
branch_references parameters at b =
    let at_written =
    at + BRANCH_HEAD_SIZE + length (flat_map interval_bytes b.writes) + length (flat_map interval_bytes b.reads) in
    let at_read = at_written + length (flat_map u16_bytes b.written_parameters) in do
      _ ← list_references (parameter_references parameters) u16_bytes at_written b.written_parameters
      _ ← list_references (parameter_references parameters) u16_bytes at_read b.read_parameters
      list_references (end_references parameters) end_bytes
          (at_read + length (flat_map u16_bytes b.read_parameters)) b.ends

-- the branches of a row are 18 bytes after its place and after its channels
unfoldable pub par_references : Contents → ℕ → Par → Result ⊤ FormatFault
par_references c at row =
    list_references (branch_references (parameters_at c row.context)) branch_bytes
    (at + PAR_HEAD_SIZE + length (flat_map channel_bytes row.channels)) row.branches

-- ---- both, where the label rows begin at `at` and the PAR rows follow them
unfoldable pub references_at : ℕ → Contents → Result ⊤ FormatFault
references_at at c = do
  _ ← list_references (label_references c) label_bytes at c.labels
  list_references (par_references c) par_bytes (at + length (flat_map label_bytes c.labels)) c.pars
