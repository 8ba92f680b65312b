-- Ranges of words, and the range of the results of each operation: the rules by which the certificate's checker
-- and the compiler bound numbers. The rules are our own choice; they are exact where the ends decide.
use Rattle.std.specs.Prelude.{◌≡◌, ℕ, ◌-◌, ◌^◌, max, ◌&&◌, ◌||◌, Bool, true, false, Option, Some, None}
use Rattle.std.specs.Prelude.{if◌then◌else◌, IfSome}
use Rattle.std.specs.Prelude.{IfNone, IsSomeAnd, unwrap_or, ◌↔◌, ℤ, pos, negsuc, ◌+ℤ◌, ◌-ℤ◌, ◌*ℤ◌, ◌≤ℤ◌, int_le}
use Rattle.std.specs.Prelude.{int_div, unsigned_abs, FitsSigned}
use Rattle.std.specs.Int.{w32, w64, cast_signed, cast_unsigned, int_min, int_max, leading_zeros}
use Rattle.std.specs.Ordering.{int_eq}
use Rattle.word_arithmetic.specs.Word.{is_word, least_word, greatest_word, word_and, word_or, word_xor, word_not}
use Rattle.word_arithmetic.specs.declared.compare.Comparison.{Comparison}
use Rattle.word_arithmetic.specs.declared.compare.Comparison.TheVariants.{Equal, NotEqual, Less, LessOrEqual, Greater}
use Rattle.word_arithmetic.specs.declared.compare.Comparison.TheVariants.{GreaterOrEqual}
use Rattle.word_arithmetic.specs.declared.ranges.Range.{Range}

-- the two ends of a range, which both belong to it
pub record Ends : Type 0 where
  pub lo : ℤ
  pub hi : ℤ

abbrev pub ends_of : Range → Ends
ends_of r = record { lo = r.lo; hi = r.hi }

-- the number lies in the range
pub record InRange (r : Ends) (v : ℤ) : Type 0 where
  pub from_lo : r.lo ≤ℤ v
  pub to_hi : v ≤ℤ r.hi

-- the ends are words, in order: there is a number in the range, and each is a word
pub record IsRange (r : Ends) : Type 0 where
  pub lo_fits : FitsSigned w32 r.lo
  pub hi_fits : FitsSigned w32 r.hi
  pub ordered : r.lo ≤ℤ r.hi

-- ---- tests

abbrev pub in_range : Ends → ℤ → Bool
in_range r v = int_le r.lo v && int_le v r.hi

abbrev pub is_within : Ends → Ends → Bool
is_within r outer = int_le outer.lo r.lo && int_le r.hi outer.hi

abbrev pub is_constant : Ends → Bool
is_constant r = int_eq r.lo r.hi

abbrev pub is_not_negative : Ends → Bool
is_not_negative r = int_le (pos 0) r.lo

-- ---- what a rule promises

-- each number of the first lies in the second
abbrev pub IsWithin : Ends → Ends → Type 0
IsWithin r outer = (v : ℤ) → InRange r v → InRange outer v

-- each result of members is a member
abbrev pub ResultsStay : (ℤ → ℤ → ℤ) → Ends → Ends → Ends → Type 0
ResultsStay f r s t = (x y : ℤ) → InRange r x → InRange s y → InRange t (f x y)

-- no members set the error flag, and each result of members is a member
abbrev pub HoldsChecked : (ℤ → ℤ → Option ℤ) → Ends → Ends → Ends → Type 0
HoldsChecked f r s t = (x y : ℤ) → InRange r x → InRange s y → IsSomeAnd (f x y) (InRange t)

-- the number is a word and lies in the range
pub record IsWordIn (r : Ends) (v : ℤ) : Type 0 where
  pub member : InRange r v
  pub word : FitsSigned w32 v

-- no members set the error flag, and each result of members is a word and a member
abbrev pub HoldsWords : (ℤ → ℤ → Option ℤ) → Ends → Ends → Ends → Type 0
HoldsWords f r s t = (x y : ℤ) → InRange r x → InRange s y → IsSomeAnd (f x y) (IsWordIn t)

-- some members have this result
pub record HasResult (f : ℤ → ℤ → Option ℤ) (r s : Ends) (outcome : Option ℤ) : Type 0 where
  pub x : ℤ
  pub y : ℤ
  pub x_in : InRange r x
  pub y_in : InRange s y
  pub is : f x y ≡ outcome

-- both ends are results of members
pub record ReachesEnds (f : ℤ → ℤ → Option ℤ) (r s t : Ends) : Type 0 where
  pub lo : HasResult f r s (Some t.lo)
  pub hi : HasResult f r s (Some t.hi)

-- the range, if there is one, holds each result of members, and no members set the error flag; if there is none, some
-- do
pub record BoundsResults (f : ℤ → ℤ → Option ℤ) (r s : Ends) (range : Option Ends) : Type 0 where
  pub members : IfSome range (HoldsChecked f r s)
  pub none : IfNone range (HasResult f r s None)

-- and both ends of the range are results of members, so that none is smaller
pub record BoundsExactly (f : ℤ → ℤ → Option ℤ) (r s : Ends) (range : Option Ends) : Type 0 where
  pub bounds : BoundsResults f r s range
  pub reached : IfSome range (ReachesEnds f r s)

-- each result that a function on words may have is that of an operation on numbers
abbrev pub Computes : (ℤ → ℤ → ℤ → Type 0) → (ℤ → ℤ → ℤ) → Type 0
Computes Gives f = (x y z : ℤ) → FitsSigned w32 x → FitsSigned w32 y → FitsSigned w64 z → Gives x y z → z ≡ f x y

-- ---- ranges made of ranges

-- one number alone
abbrev pub constant : ℤ → Ends
constant v = record { lo = v; hi = v }

-- the one number of a range that has only one
abbrev pub only_number : Ends → Option ℤ
only_number r = if is_constant r then Some r.lo else None

-- the values of a BYTE
abbrev pub bytes : Ends
bytes = record { lo = pos 0; hi = pos 255 }

-- all words
abbrev pub full : Ends
full = record { lo = least_word; hi = greatest_word }

-- from 0 to a number
abbrev pub zero_to : ℤ → Ends
zero_to hi = record { lo = pos 0; hi = hi }

-- the least range with all numbers of both
abbrev pub hull : Ends → Ends → Ends
hull r s = record { lo = int_min r.lo s.lo; hi = int_max r.hi s.hi }

-- the least range with all results of the ends
abbrev pub corners : (ℤ → ℤ → ℤ) → Ends → Ends → Ends
corners f r s =
    hull (hull (constant (f r.lo s.lo)) (constant (f r.lo s.hi)))
    (hull (constant (f r.hi s.lo)) (constant (f r.hi s.hi)))

-- the range, where its ends are words
abbrev pub fitting : Ends → Option Ends
fitting r = if is_word r.lo && is_word r.hi then Some r else None

-- the range with these ends, where they are words in order
abbrev pub range_between : ℤ → ℤ → Option Ends
range_between lo hi = if int_le lo hi then fitting (record { lo = lo; hi = hi }) else None

-- two numbers are the ends of a range between them exactly if they are words in order
abbrev pub WordsInOrderAreRanges : Type 0
WordsInOrderAreRanges = (lo hi : ℤ) (r : Ends)
    → (range_between lo hi ≡ Some r) ↔ (IsRange r × (r.lo ≡ lo) × (r.hi ≡ hi))

-- the members of the range between two words are the numbers between them, both included
abbrev pub MembersLieBetween : Type 0
MembersLieBetween = (lo hi v : ℤ) (r : Ends) → range_between lo hi ≡ Some r
    → InRange r v ↔ ((lo ≤ℤ v) × (v ≤ℤ hi))

-- 0 and 1, the truth values
abbrev pub truths : Ends
truths = zero_to (pos 1)

-- ---- checked operations: None where some members set the error flag

abbrev pub sum_range : Ends → Ends → Option Ends
sum_range r s = fitting (record { lo = r.lo +ℤ s.lo; hi = r.hi +ℤ s.hi })

abbrev pub difference_range : Ends → Ends → Option Ends
difference_range r s = fitting (record { lo = r.lo -ℤ s.hi; hi = r.hi -ℤ s.lo })

abbrev pub product_range : Ends → Ends → Option Ends
product_range r s = fitting (corners (λ x y. x *ℤ y) r s)

abbrev pub quotient_range : Ends → Ends → Option Ends
quotient_range r s = if in_range s (pos 0) then None else fitting (corners int_div r s)

-- the greatest size of a number in the range; of MostNeg that is 2^31
abbrev pub greatest_size : Ends → ℕ
greatest_size r = max (unsigned_abs r.lo) (unsigned_abs r.hi)

-- some members have no quotient: a divisor is 0, or MostNeg is divided by -1
abbrev pub can_fail_to_divide : Ends → Ends → Bool
can_fail_to_divide r s = in_range s (pos 0) || (in_range r least_word && in_range s (negsuc 0))

-- a remainder has the sign of the dividend, is no larger than it, and is smaller than the divisor
abbrev pub lowest_remainder : ℤ → ℕ → ℤ
lowest_remainder lo size = if int_le (pos 0) lo then pos 0 else int_max lo (pos 1 -ℤ pos size)

abbrev pub highest_remainder : ℤ → ℕ → ℤ
highest_remainder hi size = if int_le hi (pos 0) then pos 0 else int_min hi (pos size -ℤ pos 1)

abbrev pub remainder_ends : Ends → ℕ → Ends
remainder_ends r size = record { lo = lowest_remainder r.lo size; hi = highest_remainder r.hi size }

abbrev pub remainder_range : Ends → Ends → Option Ends
remainder_range r s = if can_fail_to_divide r s then None else Some (remainder_ends r (greatest_size s))

-- ---- modulo 2^32: the exact range if it fits, else all words

abbrev pub word_sum_range : Ends → Ends → Ends
word_sum_range r s = unwrap_or (sum_range r s) full

abbrev pub word_difference_range : Ends → Ends → Ends
word_difference_range r s = unwrap_or (difference_range r s) full

abbrev pub word_product_range : Ends → Ends → Ends
word_product_range r s = unwrap_or (product_range r s) full

-- ---- bits

abbrev pub not_range : Ends → Ends
not_range r = record { lo = word_not r.hi; hi = word_not r.lo }

-- two constants give their result, and two ranges without negative numbers one from 0
abbrev pub bits_range : ℤ → ℤ → Ends → Ends → Ends
bits_range of_constants hi r s =
    if is_constant r && is_constant s then constant of_constants
    else (if is_not_negative r && is_not_negative s then zero_to hi else full)

-- the word with ones from the place of this word's highest one down
abbrev pub all_ones : ℤ → ℤ
all_ones v = cast_signed w32 (2 ^ (32 - leading_zeros w32 (cast_unsigned w32 v)) - 1)

abbrev pub and_range : Ends → Ends → Ends
and_range r s = bits_range (word_and r.lo s.lo) (int_min r.hi s.hi) r s

abbrev pub or_range : Ends → Ends → Ends
or_range r s = bits_range (word_or r.lo s.lo) (all_ones (int_max r.hi s.hi)) r s

abbrev pub xor_range : Ends → Ends → Ends
xor_range r s = bits_range (word_xor r.lo s.lo) (all_ones (int_max r.hi s.hi)) r s

-- shifts by counts from 0 to 31
abbrev pub shift_left_range : Ends → Ends → Ends
shift_left_range r counts =
    if is_not_negative r then unwrap_or (fitting (zero_to (r.hi *ℤ pos (2 ^ unsigned_abs counts.hi)))) full else full

abbrev pub shift_right_range : Ends → Ends
shift_right_range r = if is_not_negative r then zero_to r.hi else full

-- ---- narrowing

-- what is left, and not empty, of the range by the numbers for which the fact holds
pub record IsLeft (P : ℤ → Type 0) (r left : Ends) : Type 0 where
  pub ordered : left.lo ≤ℤ left.hi
  pub members : (v : ℤ) → InRange left v ↔ (InRange r v × P v)

-- the new range is what is left, where that is one range; else it is the old one
pub record Narrows (P : ℤ → Type 0) (r new : Ends) : Type 0 where
  pub members : (v : ℤ) → InRange r v → P v → InRange new v
  pub within : (v : ℤ) → InRange new v → InRange r v
  pub left : (left : Ends) → IsLeft P r left → new ≡ left
  pub unchanged : ((left : Ends) → ¬ IsLeft P r left) → new ≡ r

-- what is left of the range inside another; the range itself where nothing is
abbrev pub inside : Ends → Ends → Ends
inside r kept =
    let both : Ends = record { lo = int_max r.lo kept.lo; hi = int_min r.hi kept.hi } in
    if int_le both.lo both.hi then both else r

-- what is left of the range outside another, where that is one range; else the range itself
abbrev pub outside : Ends → Ends → Ends
outside r removed =
    if in_range removed r.lo
    then (if in_range removed r.hi then r else record { lo = removed.hi +ℤ pos 1; hi = r.hi })
    else (if in_range removed r.hi then record { lo = r.lo; hi = removed.lo -ℤ pos 1 } else r)

-- the words from a word on, and those up to it
abbrev pub at_least : ℤ → Ends
at_least v = record { lo = v; hi = greatest_word }

abbrev pub at_most : ℤ → Ends
at_most v = record { lo = least_word; hi = v }

-- what is left of the range by a test whether a number lies in another one: the part inside where it does, else the
-- part outside
abbrev pub left_by : Bool → Ends → Ends → Ends
left_by true r other = inside r other
left_by false r other = outside r other

-- what is left by a comparison with a constant
abbrev pub narrowed : Comparison → ℤ → Ends → Ends
narrowed Equal v r = left_by true r (constant v)
narrowed NotEqual v r = left_by false r (constant v)
narrowed Less v r = left_by false r (at_least v)
narrowed LessOrEqual v r = left_by true r (at_most v)
narrowed Greater v r = left_by false r (at_most v)
narrowed GreaterOrEqual v r = left_by true r (at_least v)

-- the words above a word, and those below it, where there are some
abbrev pub words_above : ℤ → Option Ends
words_above v = range_between (v +ℤ pos 1) greatest_word

abbrev pub words_below : ℤ → Option Ends
words_below v = range_between least_word (v -ℤ pos 1)

-- A comparison with a word as a test: whether a number lies in a range, or, by false, whether it does not. No number
-- lies in a range that is not there.
abbrev pub as_test : Comparison → ℤ → Bool × Option Ends
as_test Equal v = (true, Some (constant v))
as_test NotEqual v = (false, Some (constant v))
as_test Less v = (true, words_below v)
as_test LessOrEqual v = (false, words_above v)
as_test Greater v = (true, words_above v)
as_test GreaterOrEqual v = (false, words_below v)

-- what is left of the range by such a test
abbrev pub left_by_test : Bool × Option Ends → Ends → Ends
left_by_test (is_inside, None) r = r
left_by_test (is_inside, Some other) r = left_by is_inside r other

-- a comparison with a word leaves of a range what the test that it is leaves
abbrev pub ComparisonsAreTests : Type 0
ComparisonsAreTests = (c : Comparison) (v : ℤ) (r : Ends) → FitsSigned w32 v → IsRange r
    → narrowed c v r ≡ left_by_test (as_test c v) r
