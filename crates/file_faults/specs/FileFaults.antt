-- Why a file is no module: the field at fault, what it has, and what is wanted of it.
use Rattle.std.specs.Prelude.{ℕ, ◌-◌, ◌==◌, Bool, if◌then◌else◌, List, length, [], ◌++◌, codes}
use Rattle.std.specs.Fmt.{decimal}
use Rattle.module_format.specs.declared.fault.FormatFault.{FormatFault}
use Rattle.module_format.specs.declared.fault.TheConstants.{MAGIC, TRUNCATED, ORDER, RANGE, LEFT_OVER, LIMIT}
use Rattle.module_format.specs.declared.limits.TheConstants.{MAX_CODE, MAX_LONG_CODE, MAX_CONSTANTS, MAX_DATA_WORDS}
use Rattle.module_format.specs.declared.limits.TheConstants.{MAX_BUDGET, MAX_MESSAGE, MAX_PROCEDURES, MAX_LABELS}
use Rattle.module_format.specs.declared.limits.TheConstants.{MAX_PARS, MAX_TABLES, MAX_PARAMETERS, MAX_BRANCHES}
use Rattle.fact_texts.specs.Texts.{Text}
use Rattle.file_faults.specs.declared.fields.Group.TheVariants as groups
use Rattle.file_faults.specs.declared.fields.Role.{Role}
use Rattle.file_faults.specs.declared.fields.Role.TheVariants.{CodeSize, ConstantsSize, DataWords, Budget}
use Rattle.file_faults.specs.declared.fields.Role.TheVariants.{WithinCode, WithinData, CountOf}
use Rattle.file_faults.specs.declared.walking.Found.{Found}
use Rattle.file_faults.specs.declared.walks.Walk.{Walk}
use Rattle.file_faults.specs.Fields.{field_of}
use Rattle.file_faults.specs.Names.{place_text, value_text}
use Rattle.file_faults.specs.Walking.{value_at, found_at}

-- the limit of a number
abbrev pub limit_of : Bool → Role → ℕ
limit_of is_two CodeSize = if is_two then MAX_LONG_CODE else MAX_CODE
limit_of is_two ConstantsSize = MAX_CONSTANTS
limit_of is_two DataWords = MAX_DATA_WORDS
limit_of is_two Budget = MAX_BUDGET
limit_of is_two (CountOf groups.Procedures) = MAX_PROCEDURES
limit_of is_two (CountOf groups.Parameters) = MAX_PARAMETERS
limit_of is_two (CountOf groups.Labels) = MAX_LABELS
limit_of is_two (CountOf groups.Pars) = MAX_PARS
limit_of is_two (CountOf groups.Branches) = MAX_BRANCHES
limit_of is_two (CountOf groups.Tables) = MAX_TABLES
limit_of is_two role = MAX_MESSAGE

-- the words of a fault by its number, which stand before, after or without its field
unfoldable pub words_of : ℕ → Text
words_of number =
    if number == MAGIC then codes "the file begins with neither TPM1 nor TPM2"
    else if (number == TRUNCATED) then codes "the file ends within "
    else if (number == ORDER) then codes ", and has to come after what is before it"
    else if (number == LIMIT) then codes ", and its limit is "
    else codes "memory ran out"

-- a field by its place and its name
unfoldable pub field_text : Walk → Text
field_text w = place_text w ++ (field_of w.field).name

-- the same, and what it has
unfoldable pub has_text : Walk → ℕ → Text
has_text w value = field_text w ++ (codes " is " ++ value_text (field_of w.field).number value)

-- the field in which a file ends
unfoldable pub ended_text : Walk → Text
ended_text w = words_of TRUNCATED ++ field_text w

-- a field that does not come after what is before it
unfoldable pub order_text : Walk → ℕ → Text
order_text w value = has_text w value ++ words_of ORDER

-- how large the code or the data area is, if a number has to be within it
unfoldable pub size_text : Role → ℕ → ℕ → Text
size_text WithinCode code words = codes ", and the code has " ++ (decimal code ++ codes " bytes")
size_text WithinData code words = codes ", and the data area has " ++ (decimal words ++ codes " words")
size_text role code words = []

-- a field with a value that may not be there, and what is wanted of it
unfoldable pub range_text : Walk → ℕ → Text
range_text w value =
    has_text w value
    ++ (codes "; wanted: "
    ++ ((field_of w.field).wanted ++ size_text (field_of w.field).role w.code w.data_words))

-- a field above its limit
unfoldable pub limit_text : Walk → ℕ → Text
limit_text w value =
    has_text w value ++ (words_of LIMIT ++ decimal (limit_of w.is_two (field_of w.field).role))

-- how many bytes come after the last row
unfoldable pub left_text : ℕ → Text
left_text count = decimal count ++ codes " bytes come after the last row"

-- by the number of the fault, at the field that was found
unfoldable pub why : List ℕ → FormatFault → Found → Text
why bytes fault found =
    if fault.number == TRUNCATED then ended_text found.walk
    else if (fault.number == ORDER) then order_text found.walk (value_at bytes found)
    else if (fault.number == RANGE) then range_text found.walk (value_at bytes found)
    else if (fault.number == LEFT_OVER) then left_text (length bytes - fault.offset)
    else if (fault.number == LIMIT) then limit_text found.walk (value_at bytes found)
    else words_of fault.number

-- why a file is no module
abbrev pub file_fault : List ℕ → FormatFault → Text
file_fault bytes fault = why bytes fault (found_at bytes fault.offset)
