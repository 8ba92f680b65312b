-- The bytes of each field and row of a module file: least significant byte first, without padding.
-- Source: our own choice, described in docs/MODULE_FILE.md.
use Rattle.std.specs.Prelude.{ℕ, ℤ, pos, Bool, if◌then◌else◌, List, [], ◌∷◌, ◌++◌, length}
use Rattle.std.specs.List.{flat_map}
use Rattle.std.specs.Int.{w16, w32, w64, to_le_bytes, cast_unsigned}
use Rattle.module_format.specs.declared.tags.TheConstants.{TAG_UNKNOWN, TAG_NUMBER, TAG_POINTER, TAG_CODE_ADDRESS}
use Rattle.module_format.specs.declared.tags.TheConstants.{TAG_LOOP, TAG_RETURN_ADDRESS}
use Rattle.module_format.specs.declared.tags.TheConstants.{KIND_VALUE, KIND_READ_REGION, KIND_WRITTEN_REGION}
use Rattle.module_format.specs.declared.tags.TheConstants.{KIND_CHANNELS}
use Rattle.module_format.specs.declared.tags.TheConstants.{END_FRAME_WORD, END_PARAMETER, END_LINK, DIRECTION_IN}
use Rattle.module_format.specs.declared.tags.TheConstants.{DIRECTION_OUT}
use Rattle.module_format.specs.declared.fact.Step.{Step}
use Rattle.module_format.specs.declared.fact.Step.TheVariants as steps
use Rattle.module_format.specs.Rows.{Fact}
use Rattle.module_format.specs.declared.fact.Fact.TheVariants as facts
use Rattle.module_format.specs.Rows.{Entry}
use Rattle.module_format.specs.Regions.{region_number}
use Rattle.module_format.specs.declared.rows.Parameter.{Parameter}
use Rattle.module_format.specs.declared.rows.ParameterKind.{ParameterKind}
use Rattle.module_format.specs.declared.rows.ParameterKind.TheVariants as kinds
use Rattle.module_format.specs.declared.rows.ChannelRow.{ChannelRow}
use Rattle.module_format.specs.declared.rows.Interval.{Interval}
use Rattle.module_format.specs.declared.rows.EndKind.{EndKind}
use Rattle.module_format.specs.declared.rows.EndKind.TheVariants as ends
use Rattle.module_format.specs.declared.rows.Direction.{Direction}
use Rattle.module_format.specs.declared.rows.Direction.TheVariants as directions
use Rattle.module_format.specs.declared.rows.EndRow.{EndRow}
use Rattle.module_format.specs.declared.rows.BranchCounts.{BranchCounts}
use Rattle.module_format.specs.declared.rows.TableRow.{TableRow}
use Rattle.module_format.specs.declared.tables.Version.{Version}
use Rattle.module_format.specs.declared.tables.Version.TheVariants as versions
use Rattle.module_format.specs.Contents.{Procedure, Label, Branch, counts_of, Par, Contents}

unfoldable pub u16_bytes : ℕ → List ℕ
u16_bytes n = to_le_bytes w16 n

unfoldable pub u32_bytes : ℕ → List ℕ
u32_bytes n = to_le_bytes w32 n

unfoldable pub u64_bytes : ℕ → List ℕ
u64_bytes n = to_le_bytes w64 n

-- a signed word by its two's complement
unfoldable pub i32_bytes : ℤ → List ℕ
i32_bytes z = to_le_bytes w32 (cast_unsigned w32 z)

-- a pointer's step, in bytes
abbrev pub step_size : Step → ℕ
step_size steps.Byte = 1
step_size steps.Word = 4

-- a tag, and what belongs to it
unfoldable pub fact_bytes : Fact → List ℕ
fact_bytes facts.Unknown = TAG_UNKNOWN ∷ []
fact_bytes (facts.Number lo hi) = TAG_NUMBER ∷ (i32_bytes lo ++ i32_bytes hi)
fact_bytes (facts.Pointer region lo hi step) =
    TAG_POINTER ∷ (u16_bytes (region_number region) ++ i32_bytes lo ++ i32_bytes hi ++ step_size step ∷ [])
fact_bytes (facts.CodeAddress offset) = TAG_CODE_ADDRESS ∷ u32_bytes offset
fact_bytes (facts.Loop base count weight) = TAG_LOOP ∷ (i32_bytes base ++ u32_bytes count ++ u64_bytes weight)
fact_bytes facts.ReturnAddress = TAG_RETURN_ADDRESS ∷ []

unfoldable pub entry_bytes : Entry → List ℕ
entry_bytes e = i32_bytes e.word ++ u32_bytes e.span ++ fact_bytes e.fact

unfoldable pub label_bytes : Label → List ℕ
label_bytes row =
    u32_bytes row.offset ++ u16_bytes row.context ++ i32_bytes row.depth ++ u64_bytes row.number
    ++ fact_bytes row.stack.a ++ fact_bytes row.stack.b ++ fact_bytes row.stack.c
    ++ u16_bytes (length row.entries) ++ flat_map entry_bytes row.entries

-- ---- procedure rows

-- the range of a region's words, which version 1 doesn't have
abbrev pub range_bytes : Version → ℤ → ℤ → List ℕ
range_bytes versions.One lo hi = []
range_bytes versions.Two lo hi = i32_bytes lo ++ i32_bytes hi

-- a kind, and what belongs to it
abbrev pub kind_bytes : Version → ParameterKind → List ℕ
kind_bytes v (kinds.Value lo hi) = KIND_VALUE ∷ (i32_bytes lo ++ i32_bytes hi)
kind_bytes v (kinds.ReadRegion size lo hi) = KIND_READ_REGION ∷ (u32_bytes size ++ range_bytes v lo hi)
kind_bytes v (kinds.WrittenRegion size lo hi) = KIND_WRITTEN_REGION ∷ (u32_bytes size ++ range_bytes v lo hi)
kind_bytes v (kinds.Channels count len ends) = KIND_CHANNELS ∷ (u32_bytes count ++ u32_bytes len ++ ends.0 ∷ [])

unfoldable pub parameter_bytes : Version → Parameter → List ℕ
parameter_bytes v p = u16_bytes p.word ++ kind_bytes v p.kind

unfoldable pub procedure_bytes : Version → Procedure → List ℕ
procedure_bytes v row =
    u32_bytes row.entry ++ i32_bytes row.lo ++ i32_bytes row.hi ++ u64_bytes row.number
    ++ u16_bytes (length row.parameters) ++ flat_map (parameter_bytes v) row.parameters

-- ---- PAR rows

unfoldable pub channel_bytes : ChannelRow → List ℕ
channel_bytes channel = i32_bytes channel.word ++ u32_bytes channel.length

unfoldable pub interval_bytes : Interval → List ℕ
interval_bytes interval = i32_bytes interval.lo ++ i32_bytes interval.hi

-- a kind, a number and an element, which is 0 but for a parameter's channels
abbrev pub end_kind_bytes : EndKind → List ℕ
end_kind_bytes (ends.FrameWord word) = END_FRAME_WORD ∷ (i32_bytes word ++ u32_bytes 0)
end_kind_bytes (ends.Parameter number element) = END_PARAMETER ∷ (i32_bytes number ++ u32_bytes element)
end_kind_bytes (ends.Link link) = END_LINK ∷ (i32_bytes (pos link) ++ u32_bytes 0)

abbrev pub direction_byte : Direction → ℕ
direction_byte directions.In = DIRECTION_IN
direction_byte directions.Out = DIRECTION_OUT

unfoldable pub end_bytes : EndRow → List ℕ
end_bytes e = end_kind_bytes e.kind ++ direction_byte e.direction ∷ []

-- how many intervals, parameters and ends a branch has
unfoldable pub counts_bytes : BranchCounts → List ℕ
counts_bytes c =
    u16_bytes c.writes ++ u16_bytes c.reads ++ u16_bytes c.written_parameters ++ u16_bytes c.read_parameters
    ++ u16_bytes c.ends

-- a branch's entry, workspace and numbers of items
unfoldable pub branch_head : Branch → List ℕ
branch_head row = u32_bytes row.entry ++ i32_bytes row.workspace ++ counts_bytes (counts_of row)

unfoldable pub branch_bytes : Branch → List ℕ
branch_bytes row =
    branch_head row
    ++ flat_map interval_bytes row.writes ++ flat_map interval_bytes row.reads
    ++ flat_map u16_bytes row.written_parameters ++ flat_map u16_bytes row.read_parameters
    ++ flat_map end_bytes row.ends

unfoldable pub par_bytes : Par → List ℕ
par_bytes row =
    u16_bytes row.context ++ i32_bytes row.depth ++ i32_bytes row.block ++ u32_bytes row.successor
    ++ u16_bytes (length row.channels) ++ u16_bytes (length row.branches)
    ++ flat_map channel_bytes row.channels ++ flat_map branch_bytes row.branches

-- ---- table rows

unfoldable pub table_row_bytes : TableRow → List ℕ
table_row_bytes row = u32_bytes row.start ++ u32_bytes row.end ++ i32_bytes row.lo ++ i32_bytes row.hi

-- ---- the file

-- `TPM1`
abbrev pub magic_one : List ℕ
magic_one = 84 ∷ 80 ∷ 77 ∷ 49 ∷ []

-- `TPM2`
abbrev pub magic_two : List ℕ
magic_two = 84 ∷ 80 ∷ 77 ∷ 50 ∷ []

abbrev pub magic_of : Version → List ℕ
magic_of versions.One = magic_one
magic_of versions.Two = magic_two

-- the flag and the number of table rows, which version 1 doesn't have
abbrev pub flag_bytes : Version → Bool → ℕ → List ℕ
flag_bytes versions.One flag rows = []
flag_bytes versions.Two flag rows = u32_bytes (if flag then 1 else 0) ++ u32_bytes rows

-- what follows the magic, in both versions
unfoldable pub header_bytes : Contents → List ℕ
header_bytes c =
    u32_bytes (length c.code) ++ u32_bytes (length c.constants) ++ u32_bytes c.data_words ++ u32_bytes c.base
    ++ u64_bytes c.budget ++ u32_bytes c.finish ++ flat_map u32_bytes c.lengths
    ++ u32_bytes (length c.procedures) ++ u32_bytes (length c.labels) ++ u32_bytes (length c.pars)

-- the rows, which follow the code and the constants
unfoldable pub rows_bytes : Version → Contents → List ℕ
rows_bytes version c =
    flat_map (procedure_bytes version) c.procedures ++ flat_map label_bytes c.labels ++ flat_map par_bytes c.pars
    ++ flat_map table_row_bytes c.table_rows

-- the file of these contents in a version
unfoldable pub file_of : Version → Contents → List ℕ
file_of version c =
    magic_of version ++ header_bytes c ++ flag_bytes version c.has_long_operations (length c.table_rows)
    ++ c.code ++ c.constants ++ rows_bytes version c
