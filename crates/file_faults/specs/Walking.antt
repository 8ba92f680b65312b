-- The field of a file that has an offset, or in which the file ends.
use Rattle.std.specs.Prelude.{ℕ, zero, suc, ◌+◌, ◌-◌, nat_lt, ◌||◌, false, if◌then◌else◌, List, length, drop}
use Rattle.byteorder.specs.Endian.{little_number}
use Rattle.file_faults.specs.declared.fields.Field.TheVariants.{Magic}
use Rattle.file_faults.specs.declared.fields.Group.TheVariants.{File}
use Rattle.file_faults.specs.declared.fields.Number.{Number}
use Rattle.file_faults.specs.declared.fields.Number.TheVariants.{Short, Word, SignedWord, Long}
use Rattle.file_faults.specs.declared.fields.Number.TheVariants.{CodeBytes, ConstantBytes, Nothing}
use Rattle.file_faults.specs.declared.walking.Found.{Found}
use Rattle.file_faults.specs.declared.walks.Counts.{Counts}
use Rattle.file_faults.specs.declared.walks.Walk.{Walk}
use Rattle.file_faults.specs.Fields.{field_of}
use Rattle.file_faults.specs.Walks.{next_field}

-- ---- numbers

-- how many bytes are read as the number of a field
abbrev pub bytes_read : Number → ℕ
bytes_read Short = 2
bytes_read Word = 4
bytes_read SignedWord = 4
bytes_read Long = 8
bytes_read number = 1

-- the number in the n bytes from an offset on, or 0 if there are not so many
abbrev pub number_at : List ℕ → ℕ → ℕ → ℕ
number_at bytes at n = if nat_lt (length bytes - at) n then 0 else little_number n (drop at bytes)

-- the number that is read at a field
unfoldable pub value_at : List ℕ → Found → ℕ
value_at bytes found = number_at bytes found.at (bytes_read (field_of found.walk.field).number)

-- ---- fields

-- how many bytes a field has
abbrev pub size_of : Walk → Number → ℕ
size_of w CodeBytes = w.code
size_of w ConstantBytes = w.constants
size_of w Nothing = 0
size_of w number = bytes_read number

-- the offset after a field
unfoldable pub end_of : Found → ℕ
end_of found = found.at + size_of found.walk (field_of found.walk.field).number

-- the front of a file
abbrev pub none : Counts
none = record {
  links = 0;
  procedures = 0;
  parameters = 0;
  labels = 0;
  registers = 0;
  entries = 0;
  pars = 0;
  channels = 0;
  branches = 0;
  writes = 0;
  reads = 0;
  written_parameters = 0;
  read_parameters = 0;
  ends = 0;
  tables = 0;
}

abbrev pub front : Walk
front = record {
  field = Magic;
  group = File;
  is_two = false;
  code = 0;
  constants = 0;
  data_words = 0;
  choice = 0;
  counts = record none { links = 8; registers = 3 };
  left = none;
}

abbrev pub first : Found
first = record { at = 0; walk = front }

-- The walk stays at the field that has the offset, and at one that the file does not have whole.
unfoldable pub step : List ℕ → ℕ → Found → Found
step bytes target found =
    if nat_lt target (end_of found) || nat_lt (length bytes) (end_of found) then found
    else record { at = end_of found; walk = next_field found.walk (value_at bytes found) }

-- so many steps
abbrev pub walked : List ℕ → ℕ → ℕ → Found
walked bytes target zero = step bytes target (step bytes target (step bytes target first))
walked bytes target (suc n) = step bytes target (walked bytes target n)

-- the field of a file that has an offset: each step but three goes on by a byte at least
abbrev pub found_at : List ℕ → ℕ → Found
found_at bytes target = walked bytes target (length bytes)
