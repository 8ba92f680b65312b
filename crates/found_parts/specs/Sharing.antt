-- What a branch has in common with one that is started already.
use Rattle.std.specs.Prelude.{ℕ, ◌==◌, if◌then◌else◌, ℤ, pos, ◌-ℤ◌, int_lt, List, Option, Some, None}
use Rattle.std.specs.Prelude.{option_map, slice_get}
use Rattle.std.specs.Option.{option_or}
use Rattle.module_format.specs.declared.rows.Interval.{Interval}
use Rattle.module_format.specs.Contents.{Contents, Par, Branch}
use Rattle.module_format.specs.Pars.{intervals_meet}
use Rattle.states.specs.declared.known.Mode.{Mode}
use Rattle.states.specs.declared.known.Mode.TheVariants.{Starting}
use Rattle.states.specs.State.{State}
use Rattle.rulings.specs.Reach.{is_listed}
use Rattle.fact_texts.specs.declared.facts.RangeText.{RangeText}
use Rattle.found_parts.specs.declared.sharing.Common.{Common}
use Rattle.found_parts.specs.declared.sharing.Common.TheVariants as commons
use Rattle.found_parts.specs.declared.sharing.Shared.{Shared}
use Rattle.found_parts.specs.Firsts.{first_of, among}

-- ---- words

abbrev pub greater : ℤ → ℤ → ℤ
greater n k = if int_lt n k then k else n

abbrev pub lesser : ℤ → ℤ → ℤ
lesser n k = if int_lt n k then n else k

abbrev pub words_between : ℤ → ℤ → RangeText
words_between first end = record { lo = first; hi = end -ℤ pos 1 }

-- the words that two intervals have in common
abbrev pub meeting : Interval → Interval → Option RangeText
meeting i j = if intervals_meet i j then Some (words_between (greater i.lo j.lo) (lesser i.hi j.hi)) else None

-- the first words that intervals have in common with others
abbrev pub common_words : List Interval → List Interval → Option RangeText
common_words intervals others = first_of (λ other. first_of (meeting other) intervals) others

-- the first words that one of two branches writes, and the other one writes or reads
abbrev pub words_in_common : Branch → Branch → Option RangeText
words_in_common b other =
    option_or (option_or (common_words b.writes other.writes) (common_words b.writes other.reads))
    (common_words b.reads other.writes)

-- ---- parameters

-- a number, if it is listed
abbrev pub listed : List ℕ → ℕ → Option ℕ
listed numbers j = if is_listed numbers j then Some j else None

-- the first number that is listed of some others
abbrev pub common_number : List ℕ → List ℕ → Option ℕ
common_number numbers others = first_of (listed numbers) others

-- the first parameter of which one of two branches writes what it names, and the other one writes or reads that
abbrev pub numbers_in_common : Branch → Branch → Option ℕ
numbers_in_common b other =
    option_or
    (option_or
    (common_number b.written_parameters other.written_parameters)
    (common_number b.written_parameters other.read_parameters))
    (common_number b.read_parameters other.written_parameters)

-- ---- both

abbrev pub common_of : Option RangeText → Option ℕ → Option Common
common_of (Some words) number = Some (commons.Words words)
common_of None number = option_map commons.Parameter number

-- what two branches have in common that one of them writes
abbrev pub in_common : Branch → Branch → Option Common
in_common b other = common_of (words_in_common b other) (numbers_in_common b other)

abbrev pub shared_at : ℕ → Common → Shared
shared_at entry what = record { what = what; entry = entry }

-- what a branch has in common with another one that is not itself
abbrev pub shared_with : Branch → Branch → Option Shared
shared_with b other =
    if other.entry == b.entry then None else option_map (shared_at other.entry) (in_common b other)

abbrev pub shared_among : Branch → ℕ → Option Par → Option Shared
shared_among b started None = None
shared_among b started (Some par) = among (shared_with b) started par.branches

abbrev pub shared_by : Contents → Branch → Mode → Option Shared
shared_by m b (Starting row started) = shared_among b started (slice_get m.pars row)
shared_by m b mode = None

-- what it has in common with one that the process has started
unfoldable pub shared_in : Contents → State → Branch → Option Shared
shared_in m s b = shared_by m b s.mode
