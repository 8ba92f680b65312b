-- What is asked of words, and the first of some words of which it is not so.
use Rattle.std.specs.Prelude.{ℕ, zero, suc, Bool, true, false, if◌then◌else◌, ℤ, pos, ◌+ℤ◌, ◌-ℤ◌, nat_abs, Option}
use Rattle.std.specs.Prelude.{Some, None}
use Rattle.std.specs.Option.{option_or}
use Rattle.module_format.specs.Rows.{Fact}
use Rattle.module_format.specs.declared.fact.Fact.TheVariants.{Number}
use Rattle.module_format.specs.declared.rows.Interval.{Interval}
use Rattle.certificate.specs.Rights.{may_write_word, may_read_word}
use Rattle.states.specs.declared.known.WordFact.{WordFact}
use Rattle.states.specs.State.{plain}
use Rattle.states.specs.Views.{state_of}
use Rattle.found_parts.specs.declared.asked.Asked.{Asked}
use Rattle.found_parts.specs.declared.asked.Asked.TheVariants as asks

abbrev pub is_numeric : Fact → Bool
is_numeric (Number lo hi) = true
is_numeric fact = false

-- reading the word gives a number
abbrev pub is_number : WordFact → Bool
is_number fact = is_numeric (plain fact)

-- it is so of a word
abbrev pub holds : Asked → ℤ → Bool
holds (asks.Number state) k = is_number ((state_of state.now).frame k)
holds (asks.Written m context) k = may_write_word m.now context k
holds (asks.Read m context) k = may_read_word m.now context k

-- the word, if the test fails
abbrev pub failing : (ℤ → Bool) → ℤ → Option ℤ
failing test k = if test k then None else Some k

-- the first of a number of words for which the test fails
abbrev pub first_failing : (ℤ → Bool) → ℤ → ℕ → Option ℤ
first_failing test first zero = None
first_failing test first (suc more) = option_or (first_failing test first more) (failing test (first +ℤ pos more))

-- the first word of an interval for which it fails
abbrev pub failing_within : (ℤ → Bool) → Interval → Option ℤ
failing_within test i = first_failing test i.lo (nat_abs (i.hi -ℤ i.lo))
