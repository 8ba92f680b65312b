-- Which bytes of its regions a context may use, by their offsets from where the region starts. Those of the frame count
-- from its word 0.
use Rattle.std.specs.Prelude.{ℕ, ◌+◌, ◌/◌, ◌==◌, ℤ, pos, negsuc, ◌-ℤ◌, int_le, nat_abs, ◌&&◌, ◌||◌, Bool, true}
use Rattle.std.specs.Prelude.{false, if◌then◌else◌, List, length, Option, Some, None, slice_get, find, option_map}
use Rattle.std.specs.Prelude.{unwrap_or}
use Rattle.std.specs.List.{list_any}
use Rattle.word_arithmetic.specs.Range.{Ends, full}
use Rattle.module_format.specs.declared.fact.Region.{Region}
use Rattle.module_format.specs.declared.fact.Region.TheVariants as regions
use Rattle.module_format.specs.declared.rows.ParameterKind.{ParameterKind}
use Rattle.module_format.specs.declared.rows.ParameterKind.TheVariants.{Value, ReadRegion, WrittenRegion, Channels}
use Rattle.module_format.specs.declared.rows.TableRow.{TableRow}
use Rattle.module_format.specs.Contents.{Contents}
use Rattle.module_format.specs.Contexts.{parameters_at}
use Rattle.certificate.specs.Branches.{numbered_branch}
use Rattle.certificate.specs.Rights.{may_write_word, may_read_word}
use Rattle.certificate.specs.Words.{all_words}

-- ---- words of the frame

-- the word in which a byte of the frame lies
abbrev pub word_of_byte : ℤ → ℤ
word_of_byte (pos n) = pos (n / 4)
word_of_byte (negsuc n) = negsuc (n / 4)

-- how many words have a byte from the first up to `end` (not included)
abbrev pub words_touched : ℤ → ℤ → ℕ
words_touched first end = nat_abs (word_of_byte (end -ℤ pos 1) -ℤ word_of_byte first) + 1

-- each word that has one of these bytes passes the test
abbrev pub all_touched : (ℤ → Bool) → ℤ → ℤ → Bool
all_touched test first end = all_words test (word_of_byte first) (words_touched first end)

-- ---- regions of parameters

-- how many bytes a parameter of this kind names that may be read, and how many that may be written
abbrev pub readable_size : ParameterKind → Option ℕ
readable_size (Value lo hi) = None
readable_size (ReadRegion size lo hi) = Some size
readable_size (WrittenRegion size lo hi) = Some size
readable_size (Channels count len ends) = None

abbrev pub writable_size : ParameterKind → Option ℕ
writable_size (Value lo hi) = None
writable_size (ReadRegion size lo hi) = None
writable_size (WrittenRegion size lo hi) = Some size
writable_size (Channels count len ends) = None

-- the number is listed
abbrev pub is_listed : List ℕ → ℕ → Bool
is_listed numbers j = list_any (λ k. k == j) numbers

-- a branch may use those parameters so that its row names
abbrev pub may_read_parameter : Contents → ℕ → ℕ → Bool
may_read_parameter m context j = elim (numbered_branch m context) [
  | None ↦ true
  | Some found ↦ is_listed found.1.written_parameters j || is_listed found.1.read_parameters j
]

abbrev pub may_write_parameter : Contents → ℕ → ℕ → Bool
may_write_parameter m context j =
    elim (numbered_branch m context) [ None ↦ true | Some found ↦ is_listed found.1.written_parameters j ]

-- bytes from the first up to `end` lie in a region of this size, if there is one
abbrev pub lie_in : Option ℕ → ℤ → ℤ → Bool
lie_in None first end = false
lie_in (Some size) first end = int_le (pos 0) first && int_le end (pos size)

-- how many bytes parameter j names that a context may read, and how many that it may write
abbrev pub readable_bytes : Contents → ℕ → ℕ → Option ℕ
readable_bytes m context j = elim (slice_get (parameters_at m context) j) [
  | None ↦ None
  | Some p ↦ if may_read_parameter m context j then readable_size p.kind else None
]

abbrev pub writable_bytes : Contents → ℕ → ℕ → Option ℕ
writable_bytes m context j = elim (slice_get (parameters_at m context) j) [
  | None ↦ None
  | Some p ↦ if may_write_parameter m context j then writable_size p.kind else None
]

-- ---- bytes of regions

-- a context may read the bytes of a region from the first up to `end`
unfoldable pub may_read_bytes : Contents → ℕ → Region → ℤ → ℤ → Bool
may_read_bytes m context regions.Frame first end = all_touched (may_read_word m context) first end
may_read_bytes m context regions.Constants first end = lie_in (Some (length m.constants)) first end
may_read_bytes m context (regions.Parameter j) first end = lie_in (readable_bytes m context j) first end

-- it may write them
unfoldable pub may_write_bytes : Contents → ℕ → Region → ℤ → ℤ → Bool
may_write_bytes m context regions.Frame first end = all_touched (may_write_word m context) first end
may_write_bytes m context regions.Constants first end = false
may_write_bytes m context (regions.Parameter j) first end = lie_in (writable_bytes m context j) first end

-- ---- what the words of a region other than the frame are

-- the range that a parameter of this kind keeps of what it names
abbrev pub kept_range : ParameterKind → Ends
kept_range (Value lo hi) = full
kept_range (ReadRegion size lo hi) = record { lo = lo; hi = hi }
kept_range (WrittenRegion size lo hi) = record { lo = lo; hi = hi }
kept_range (Channels count len ends) = full

-- all bytes from the first up to `end` lie in the row of a table
abbrev pub lie_in_row : ℤ → ℤ → TableRow → Bool
lie_in_row first end row = int_le (pos row.start) first && int_le end (pos row.end)

-- the range of the constants: that of the row in which all of the bytes lie, if there is one
unfoldable pub constant_range : Contents → ℤ → ℤ → Ends
constant_range m first end = unwrap_or
    (option_map (λ row. record { lo = row.lo; hi = row.hi }) (find (lie_in_row first end) m.table_rows)) full

-- the range that a parameter keeps of what it names
abbrev pub parameter_range : Contents → ℕ → ℕ → Ends
parameter_range m context j =
    elim (slice_get (parameters_at m context) j) [ None ↦ full | Some p ↦ kept_range p.kind ]

-- the numbers that the words of a region may be which have bytes from the first up to `end`: of the frame any
unfoldable pub region_range : Contents → ℕ → Region → ℤ → ℤ → Ends
region_range m context regions.Frame first end = full
region_range m context regions.Constants first end = constant_range m first end
region_range m context (regions.Parameter j) first end = parameter_range m context j
