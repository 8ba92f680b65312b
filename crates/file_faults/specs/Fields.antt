-- The fields of a module file: a table of what each one is, and of the groups that they come in.
use Rattle.std.specs.Prelude.{◌≡◌, codes}
use Prim.Native.String.{String}
use Rattle.fact_texts.specs.Texts.{Text}
use Rattle.file_faults.specs.declared.fields.Number.{Number}
use Rattle.file_faults.specs.declared.fields.Number.TheVariants.{Byte, Short, Word, SignedWord, Long}
use Rattle.file_faults.specs.declared.fields.Number.TheVariants.{CodeBytes, ConstantBytes, Nothing}
use Rattle.file_faults.specs.declared.fields.Group.{Group}
use Rattle.file_faults.specs.declared.fields.Group.TheVariants as groups
use Rattle.file_faults.specs.declared.fields.Role.{Role}
use Rattle.file_faults.specs.declared.fields.Role.TheVariants as roles
use Rattle.file_faults.specs.declared.fields.Role.TheVariants.{Plain, Version, WithinCode, WithinData, Choice, CountOf}
use Rattle.file_faults.specs.declared.fields.Field.{Field}
use Rattle.file_faults.specs.declared.fields.Field.TheVariants as fields
use Rattle.file_faults.specs.declared.fields.FieldRecord as fields_of_code
use Rattle.file_faults.specs.declared.fields.GroupRecord as groups_of_code

-- ---- fields

-- what a field is: its number, its name, what is wanted of it, what it is for, and the field after it
pub record FieldRecord : Type 0 where
  pub number : Number
  pub name : Text
  pub wanted : Text
  pub role : Role
  pub next : Field

-- a record of the code says the same
abbrev pub IsField : fields_of_code.FieldRecord → FieldRecord → Type 0
IsField r s =
    (r.number ≡ s.number) × (r.name.now ≡ s.name) × (r.wanted.now ≡ s.wanted) × (r.role ≡ s.role)
    × (r.next ≡ s.next)

abbrev pub field : Number → String → String → Role → Field → FieldRecord
field number name wanted role next =
    record { number = number; name = codes name; wanted = codes wanted; role = role; next = next }

-- one of which words do not say what is wanted
abbrev pub plain : Number → String → Role → Field → FieldRecord
plain number name role next = field number name "another number" role next

-- those of a PAR row, or the end
unfoldable pub branch_field : Field → FieldRecord
branch_field fields.ParContext = field Short "context" "a context that is before its branches" Plain fields.ParDepth
branch_field fields.ParDepth = plain SignedWord "depth" Plain fields.ParBlock
branch_field fields.ParBlock = field SignedWord "block" "words of the frame" Plain fields.ParSuccessor
branch_field fields.ParSuccessor =
    field Word "successor" "an offset in the code that is not its first" WithinCode fields.Channels
branch_field fields.Channels = plain Short "channels" (CountOf groups.Channels) fields.Branches
branch_field fields.Branches =
    field Short "branches" "at least 1" (CountOf groups.Branches) (fields.First groups.Channels)
branch_field fields.ChannelWord = field SignedWord "word" "a word of the frame" Plain fields.ChannelLength
branch_field fields.ChannelLength = field Word "length" "at least 1" Plain fields.Next
branch_field fields.BranchEntry =
    field Word "entry" "an offset in the code that is not its first, and that of no other branch"
    WithinCode fields.BranchWorkspace
branch_field fields.BranchWorkspace = field SignedWord "workspace" "a word of the frame" Plain fields.Writes
branch_field fields.Writes = plain Short "written" (CountOf groups.Writes) fields.Reads
branch_field fields.Reads = plain Short "read" (CountOf groups.Reads) fields.WrittenParameters
branch_field fields.WrittenParameters =
    plain Short "written parameters" (CountOf groups.WrittenParameters) fields.ReadParameters
branch_field fields.ReadParameters = plain Short "read parameters" (CountOf groups.ReadParameters) fields.Ends
branch_field fields.Ends = plain Short "ends" (CountOf groups.Ends) (fields.First groups.Writes)
branch_field fields.WordsLo = field SignedWord "lo" "words of the frame" Plain fields.WordsHi
branch_field fields.WordsHi = field SignedWord "hi" "above lo" Plain fields.Next
branch_field fields.ParameterNumber = field Short "number" "a parameter that is there" Plain fields.Next
branch_field fields.EndKind = field Byte "kind" "0 to 2" Plain fields.EndNumber
branch_field fields.EndNumber = field SignedWord "number" "a channel that is there" Plain fields.EndElement
branch_field fields.EndElement =
    field Word "element" "0, but of a parameter one of its channels" Plain fields.EndDirection
branch_field fields.EndDirection = field Byte "direction" "1 (in) or 2 (out)" Plain fields.Next
branch_field f = field Nothing "end" "nothing" Plain fields.End

-- those of a label row, or else of a PAR row
unfoldable pub label_field : Field → FieldRecord
label_field fields.LabelOffset =
    field Word "offset" "an offset in the code that is neither its first nor the entry of a procedure"
    WithinCode fields.LabelContext
label_field fields.LabelContext = field Short "context" "a context that is there" Plain fields.LabelDepth
label_field fields.LabelDepth = plain SignedWord "depth" Plain fields.LabelNumber
label_field fields.LabelNumber = plain Long "number" Plain (fields.First groups.Registers)
label_field fields.Entries = plain Short "entries" (CountOf groups.Entries) (fields.First groups.Entries)
label_field fields.EntryWord = field SignedWord "word" "words of the frame" Plain fields.EntrySpan
label_field fields.EntrySpan = field Word "span" "at least 1" Plain fields.FactTag
label_field fields.FactTag =
    field Byte "tag" "0 to 3; of an entry 1 to 3, 4 for two words or 5 for one" Choice fields.OfTag
label_field fields.FactRegion = field Short "region" "a region that is there" Plain fields.RegionLo
label_field fields.RegionLo = plain SignedWord "lo" Plain fields.RegionHi
label_field fields.RegionHi = field SignedWord "hi" "at least lo" Plain fields.RegionStep
label_field fields.RegionStep = field Byte "step" "1, or 4 where lo and hi are multiples of 4" Plain fields.Next
label_field fields.FactOffset = field Word "offset" "at most the bytes of code" WithinCode fields.Next
label_field fields.FactBase = plain SignedWord "base" Plain fields.FactTurns
label_field fields.FactTurns = field Word "count" "at least 1, with a last index that is a word" Plain fields.FactWeight
label_field fields.FactWeight = plain Long "weight" Plain fields.Next
label_field f = branch_field f

-- those of a procedure row, or else of a label row
unfoldable pub procedure_field : Field → FieldRecord
procedure_field fields.ProcedureEntry =
    field Word "entry" "an offset in the code that is not its first" WithinCode fields.ProcedureLo
procedure_field fields.ProcedureLo = field SignedWord "lo" "from -16384 to 0" Plain fields.ProcedureHi
procedure_field fields.ProcedureHi = field SignedWord "hi" "from 4 to 16384" Plain fields.ProcedureNumber
procedure_field fields.ProcedureNumber = plain Long "number" Plain fields.Parameters
procedure_field fields.Parameters =
    plain Short "parameters" (CountOf groups.Parameters) (fields.First groups.Parameters)
procedure_field fields.ParameterWord = field Short "word" "from 1 to below hi" Plain fields.ParameterKind
procedure_field fields.ParameterKind = field Byte "kind" "0 to 3" Choice fields.OfKind
procedure_field fields.ParameterSize = field Word "size" "a multiple of 4, at least 4" Plain fields.RangeOrNext
procedure_field fields.ChannelCount = field Word "count" "at least 1" Plain fields.ParameterLength
procedure_field fields.ParameterLength = field Word "length" "at least 1" Plain fields.ParameterEnds
procedure_field fields.ParameterEnds = field Byte "ends" "1 (in), 2 (out) or 3 (both)" Plain fields.Next
procedure_field fields.Lo = plain SignedWord "lo" Plain fields.Hi
procedure_field fields.Hi = field SignedWord "hi" "at least lo" Plain fields.Next
procedure_field f = label_field f

-- any field: those before the rows and of a table row, or else of a procedure row
unfoldable pub field_of : Field → FieldRecord
field_of fields.Magic = field Word "magic" "TPM1 or TPM2" Version fields.CodeSize
field_of fields.CodeSize = field Word "bytes of code" "at least 1" roles.CodeSize fields.ConstantsSize
field_of fields.ConstantsSize = plain Word "bytes of constants" roles.ConstantsSize fields.DataWords
field_of fields.DataWords = field Word "words of the data area" "at least 1" roles.DataWords fields.Base
field_of fields.Base = field Word "base" "at most the words of the data area" WithinData fields.Budget
field_of fields.Budget = plain Long "budget" roles.Budget fields.Finish
field_of fields.Finish = field Word "finish" "at most the bytes of code" WithinCode (fields.First groups.Links)
field_of fields.LinkLength = plain Word "length" Plain fields.Next
field_of fields.ProcedureRows = plain Word "number of procedure rows" (CountOf groups.Procedures) fields.LabelRows
field_of fields.LabelRows = plain Word "number of label rows" (CountOf groups.Labels) fields.ParRows
field_of fields.ParRows = plain Word "number of PAR rows" (CountOf groups.Pars) fields.FlagOrCode
field_of fields.Flag = field Word "flag" "0 or 1" Plain fields.TableRows
field_of fields.TableRows = plain Word "number of table rows" (CountOf groups.Tables) fields.Code
field_of fields.Code = field CodeBytes "code" "other bytes" Plain fields.Constants
field_of fields.Constants = field ConstantBytes "constants" "other bytes" Plain (fields.First groups.Procedures)
field_of fields.TableStart = field Word "start" "a multiple of 4" Plain fields.TableEnd
field_of fields.TableEnd =
    field Word "end" "a multiple of 4 above start, at most the bytes of constants" Plain fields.TableLo
field_of fields.TableLo = field SignedWord "lo" "a range that has all words of the table" Plain fields.Hi
field_of f = procedure_field f

-- ---- groups

-- what a group is: the words before a number, the group around it, its first field, and the field after its last one
pub record GroupRecord : Type 0 where
  pub words : Text
  pub outer : Group
  pub first : Field
  pub after : Field

-- a record of the code says the same
abbrev pub IsGroup : groups_of_code.GroupRecord → GroupRecord → Type 0
IsGroup r s = (r.words.now ≡ s.words) × (r.outer ≡ s.outer) × (r.first ≡ s.first) × (r.after ≡ s.after)

abbrev pub group : String → Group → Field → Field → GroupRecord
group words outer first after = record { words = codes words; outer = outer; first = first; after = after }

unfoldable pub group_of : Group → GroupRecord
group_of groups.File = group "" groups.File fields.Magic fields.End
group_of groups.Links = group "link " groups.File fields.LinkLength fields.ProcedureRows
group_of groups.Procedures = group "procedure row " groups.File fields.ProcedureEntry (fields.First groups.Labels)
group_of groups.Parameters = group "parameter " groups.Procedures fields.ParameterWord fields.Next
group_of groups.Labels = group "label row " groups.File fields.LabelOffset (fields.First groups.Pars)
group_of groups.Registers = group "" groups.Labels fields.FactTag fields.Entries
group_of groups.Entries = group "entry " groups.Labels fields.EntryWord fields.Next
group_of groups.Pars = group "PAR row " groups.File fields.ParContext (fields.First groups.Tables)
group_of groups.Channels = group "channel " groups.Pars fields.ChannelWord (fields.First groups.Branches)
group_of groups.Branches = group "branch " groups.Pars fields.BranchEntry fields.Next
group_of groups.Writes = group "written words " groups.Branches fields.WordsLo (fields.First groups.Reads)
group_of groups.Reads = group "read words " groups.Branches fields.WordsLo (fields.First groups.WrittenParameters)
group_of groups.WrittenParameters =
    group "written parameter " groups.Branches fields.ParameterNumber (fields.First groups.ReadParameters)
group_of groups.ReadParameters =
    group "read parameter " groups.Branches fields.ParameterNumber (fields.First groups.Ends)
group_of groups.Ends = group "end " groups.Branches fields.EndKind fields.Next
group_of groups.Tables = group "table row " groups.File fields.TableStart fields.End
