-- Words that pass a test: a count of words from a first one on, those of an interval, and those of joined intervals.
use Rattle.std.specs.Prelude.{◌≡◌, ℕ, zero, suc, ℤ, pos, ◌+ℤ◌, ◌-ℤ◌, ◌≤ℤ◌, int_le, int_lt, nat_abs, ◌&&◌, ◌||◌, Bool}
use Rattle.std.specs.Prelude.{true, List}
use Rattle.std.specs.List.{AllByRecursion}
use Rattle.module_format.specs.declared.rows.Interval.{Interval}
use Rattle.module_format.specs.Order.{InOrder, least_word}
use Rattle.module_format.specs.Pars.{IntervalKeeps}
use Rattle.certificate.specs.Rights.{is_among}

-- each of a count of words from the first on passes the test
abbrev pub all_words : (ℤ → Bool) → ℤ → ℕ → Bool
all_words test first zero = true
all_words test first (suc more) = test (first +ℤ pos more) && all_words test first more

-- each word of an interval passes the test
abbrev pub all_within : (ℤ → Bool) → Interval → Bool
all_within test i = all_words test i.lo (nat_abs (i.hi -ℤ i.lo))

-- word k is one of the interval's
abbrev pub is_in_interval : Interval → ℤ → Bool
is_in_interval i k = int_le i.lo k && int_lt k i.hi

-- ---- joined intervals

-- an interval leaves the words after the word next to it: no interval after it touches it
abbrev pub beyond_interval : ℤ → Interval → ℤ
beyond_interval low i = i.hi +ℤ pos 1

-- these intervals rise, no two of them touch, and their words are those that pass the test
pub record AreJoined (test : ℤ → Bool) (is : List Interval) : Type 0 where
  pub each : (k : ℤ) → is_among is k ≡ test k
  pub apart : InOrder IntervalKeeps beyond_interval least_word is

-- each interval begins at a word or before it
abbrev pub BeginBy : ℤ → List Interval → Type 0
BeginBy k is = AllByRecursion (λ i. i.lo ≤ℤ k) is

-- what adding an interval to joined ones leaves
pub record IsAdded (old : List Interval) (i : Interval) (new : List Interval) : Type 0 where
  pub apart : InOrder IntervalKeeps beyond_interval least_word new
  pub begun : BeginBy i.lo new
  pub words : (k : ℤ) → is_among new k ≡ (is_among old k || is_in_interval i k)

-- an interval that begins at a word or after it
abbrev pub BeginsFrom : ℤ → Interval → Type 0
BeginsFrom k i = k ≤ℤ i.lo

-- an interval leaves the words from its first one on
abbrev pub from_begin : ℤ → Interval → ℤ
from_begin k i = i.lo

-- each interval begins where those before it do, or after them
pub record BeginInOrder (is : List Interval) : Type 0 where
  pub low : ℤ
  pub order : InOrder BeginsFrom from_begin low is
