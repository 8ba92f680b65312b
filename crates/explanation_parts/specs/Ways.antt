-- What is known where a process comes to a label.
use Rattle.std.specs.Prelude.{Bool, true, not, ◌&&◌, if◌then◌else◌, ℤ, pos, ◌-ℤ◌, int_le, int_lt, Option, Some, None}
use Rattle.word_arithmetic.specs.Range.{Ends, range_between, left_by}
use Rattle.module_format.specs.Rows.{Fact}
use Rattle.module_format.specs.declared.fact.Fact.TheVariants.{Unknown, Number}
use Rattle.states.specs.declared.known.Known.{Known}
use Rattle.states.specs.declared.known.Mode.{Mode}
use Rattle.states.specs.declared.known.Source.{Source}
use Rattle.states.specs.declared.known.Source.TheVariants.{Test}
use Rattle.states.specs.declared.known.WordFact.{WordFact}
use Rattle.states.specs.declared.known.WordFact.TheVariants.{Alone}
use Rattle.states.specs.State.{State, Facts, by_itself, is_parted, is_same_number}
use Rattle.states.specs.Below.{is_plain}
use Rattle.explanation_parts.specs.declared.ways.Way.{Way}
use Rattle.explanation_parts.specs.declared.ways.Way.TheVariants.{Falls, Jumps, Tests, Selects}

-- ---- another process may have run

-- the word is one of the three below a depth
abbrev pub is_hidden : ℤ → ℤ → Bool
is_hidden depth k = int_le (depth -ℤ pos 3) k && int_lt k depth

-- what is known of a word once these three are unknown
abbrev pub hidden_fact : ℤ → ℤ → WordFact → WordFact
hidden_fact depth k fact =
    if is_hidden depth k then Alone Unknown
    else if is_parted (is_hidden depth) k fact then Alone (by_itself fact) else fact

-- ---- what A has is 0

-- the range of a number that is in no loop
abbrev pub range_of : WordFact → Option Ends
range_of (Alone (Number lo hi)) = range_between lo hi
range_of fact = None

abbrev pub number_in : Ends → WordFact
number_in r = Alone (Number r.lo r.hi)

-- what is left of what is known of a word that is in a range, or outside it
unfoldable pub left_fact : Bool → ℤ → ℤ → WordFact → WordFact
left_fact inside lo hi fact = elim (range_of fact) [
  | None ↦ fact
  | Some own ↦ elim (range_between lo hi) [ None ↦ fact | Some other ↦ number_in (left_by inside own other) ]
]

-- what is known of a word where what comes from there is 0
abbrev pub tested_fact : Source → ℤ → WordFact → WordFact
tested_fact (Test word lo hi inside) k fact = if is_same_number k word then left_fact (not inside) lo hi fact else fact
tested_fact source k fact = fact

-- ---- all

-- what is known of words
abbrev pub seen_in : Way → State → Facts
seen_in Falls s = λ k. s.frame k
seen_in Jumps s = λ k. hidden_fact s.depth k (s.frame k)
seen_in Tests s = λ k. tested_fact s.stack.a.source k (s.frame k)
seen_in Selects s = λ k. s.frame k

-- what is known of a register
abbrev pub seen_of : Way → Known → Fact
seen_of Jumps known = Unknown
seen_of way known = known.fact

abbrev pub seen_of_a : Way → Known → Fact
seen_of_a Jumps known = Unknown
seen_of_a Tests known = Number (pos 0) (pos 0)
seen_of_a way known = known.fact

-- the process is in the middle of nothing
abbrev pub is_settled : Way → Mode → Bool
is_settled Selects mode = true
is_settled way mode = is_plain mode
