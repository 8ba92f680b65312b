-- Spans of words: a number of words from a first one on, what is known of them together, and how all of them change.
use Rattle.std.specs.Prelude.{ℕ, zero, suc, ℤ, pos, ◌+ℤ◌, int_le, int_lt, ◌&&◌, ◌==◌, Bool, true, false}
use Rattle.std.specs.Int.{int_min, int_max}
use Rattle.module_format.specs.Rows.{Fact}
use Rattle.module_format.specs.declared.fact.Fact.TheVariants.{Unknown, Number}
use Rattle.module_format.specs.Order.{least_word, greatest_word}
use Rattle.module_format.specs.Stack.{mapped}
use Rattle.states.specs.declared.known.WordFact.{WordFact}
use Rattle.states.specs.declared.span.Together.{Together}
use Rattle.states.specs.declared.span.Leaving.{Leaving}
use Rattle.states.specs.declared.span.Leaving.TheVariants as leavings
use Rattle.states.specs.State.{State, Facts, Change, plain, is_alone, forgets, changed}

-- word `k` is one of `count` words from `first` on
abbrev pub is_in_span : ℤ → ℕ → ℤ → Bool
is_in_span first count k = int_le first k && int_lt k (first +ℤ pos count)

-- ---- what is known of some words together

-- of no words
abbrev pub of_none : Together
of_none = record { lo = greatest_word; hi = least_word; are_numbers = true; are_alone = true }

-- the same of one more, whose plain fact this is
abbrev pub with_plain : Fact → Together → Together
with_plain (Number lo hi) t = record t { lo = int_min t.lo lo; hi = int_max t.hi hi }
with_plain _ t = record t { are_numbers = false }

-- the same of one more
abbrev pub with_one : WordFact → Together → Together
with_one fact t = with_plain (plain fact) (record t { are_alone = t.are_alone && is_alone fact })

abbrev pub together : Facts → ℤ → ℕ → Together
together facts first zero = of_none
together facts first (suc more) = with_one (facts (first +ℤ pos more)) (together facts first more)

-- the same with `count` more, of which nothing is known
abbrev pub with_silent : ℕ → Together → Together
with_silent count t = record t { are_numbers = t.are_numbers && (count == 0) }

-- the same of the words of two spans
abbrev pub joined : Together → Together → Together
joined t u = record {
  lo = int_min t.lo u.lo;
  hi = int_max t.hi u.hi;
  are_numbers = t.are_numbers && u.are_numbers;
  are_alone = t.are_alone && u.are_alone;
}

-- ---- changes of spans

-- what a number says that may have been replaced by one from lo to hi; of anything else nothing is left
abbrev pub widened : ℤ → ℤ → Fact → Fact
widened lo hi (Number low high) = Number (int_min low lo) (int_max high hi)
widened lo hi _ = Unknown

-- what is left of a fact
abbrev pub left_of : Leaving → Fact → Fact
left_of (leavings.Become fact) said = fact
left_of (leavings.Widen lo hi) said = widened lo hi said

-- each word of the span is left so
abbrev pub on_span : ℤ → ℕ → Leaving → Change
on_span first count leaving = record { touches = is_in_span first count; leaves = λ k said. left_of leaving said }

-- a state after a change of what is known of words
unfoldable pub after_change : Change → State → State
after_change change s =
    record s { stack = mapped (forgets change.touches) s.stack; frame = changed change s.frame }
