-- Pointers that rules use, and what is read and left through them.
use Rattle.std.specs.Prelude.{ℕ, ◌==◌, ◌&&◌, not, ℤ, pos, negsuc, ◌+ℤ◌, int_le, Bool, false}
use Rattle.std.specs.Prelude.{if◌then◌else◌, Result, Ok, Err, true}
use Rattle.module_format.specs.Rows.{Fact}
use Rattle.module_format.specs.declared.fact.Fact.TheVariants.{Unknown, Number, Pointer}
use Rattle.module_format.specs.declared.fact.Region.{Region}
use Rattle.module_format.specs.declared.fact.Region.TheVariants as regions
use Rattle.module_format.specs.Regions.{is_frame}
use Rattle.module_format.specs.Order.{least_word, greatest_word}
use Rattle.module_format.specs.Contents.{Contents}
use Rattle.states.specs.declared.rule.Rule.{Rule}
use Rattle.states.specs.declared.rule.Rule.TheVariants as rules
use Rattle.word_arithmetic.specs.Range.{Ends, full}
use Rattle.states.specs.declared.span.Together.{Together}
use Rattle.states.specs.State.{State, Facts, plain, is_same_number as is_same}
use Rattle.states.specs.declared.span.Leaving.{Leaving}
use Rattle.states.specs.declared.span.Leaving.TheVariants.{Become, Widen}
use Rattle.states.specs.Spans.{together, on_span, after_change}
use Rattle.states.specs.Below.{lies_within}
use Rattle.rulings.specs.Reach.{word_of_byte, words_touched, may_read_bytes, may_write_bytes, region_range}
use Rattle.rulings.specs.Reach.{parameter_range}
use Rattle.rulings.specs.declared.pointers.Pointed.{Pointed}
use Rattle.rulings.specs.declared.pointers.Bounds.{Bounds}
use Rattle.rulings.specs.Rulings.{Ruling, breaks, Site}

-- ---- what facts say

-- an offset of a pointer: at most 2^24 bytes from its region's start
abbrev pub is_near : ℤ → Bool
is_near offset = int_le (negsuc 16777215) offset && int_le offset (pos 16777216)

-- the offset is one
unfoldable pub near : ℤ → Ruling → Ruling
near offset k = if is_near offset then k else breaks rules.Pointer

-- so are both
abbrev pub are_near : ℤ → ℤ → Bool
are_near lo hi = is_near lo && is_near hi

-- a fact of what may be a pointer or a number: a pointer is near
abbrev pub is_near_pointer : Fact → Bool
is_near_pointer (Pointer region lo hi step) = are_near lo hi
is_near_pointer fact = true

-- a pointer that may be used or shifted: its offsets are near
unfoldable pub pointer_of : Fact → Result Pointed Rule
pointer_of (Pointer region lo hi step) =
    if are_near lo hi then Ok (record { region = region; lo = lo; hi = hi; step = step }) else Err rules.Pointer
pointer_of _ = Err rules.Pointer

-- a pointer to one byte alone, whose offset is near
unfoldable pub exact_pointer : Fact → Result Pointed Rule
exact_pointer (Pointer region lo hi step) =
    if are_near lo hi && is_same lo hi then Ok (record { region = region; lo = lo; hi = hi; step = step })
    else Err rules.Pointer
exact_pointer _ = Err rules.Pointer

-- the bounds of a number
unfoldable pub bounds_of : Fact → Result Bounds Rule
bounds_of (Number lo hi) = Ok (record { lo = lo; hi = hi })
bounds_of _ = Err rules.Number

-- the number that a fact says it is
unfoldable pub constant_of : Fact → Result ℤ Rule
constant_of (Number lo hi) = if is_same lo hi then Ok lo else Err rules.Number
constant_of _ = Err rules.Number

-- ---- what is read

-- the context may read the bytes of a region from the first up to `end`
unfoldable pub reads_bytes : Site → State → Region → ℤ → ℤ → Ruling → Ruling
reads_bytes site s region first end next =
    if may_read_bytes site.contents s.context region first end then next else breaks rules.Pointer

-- bounds, as the ends of a range
abbrev pub ends_in : Bounds → Ends
ends_in b = record { lo = b.lo; hi = b.hi }

-- a number in a range
abbrev pub number_within : Ends → Fact
number_within r = Number r.lo r.hi

-- what is known of any of some words that are known together
abbrev pub any_of : Together → Fact
any_of t = if t.are_numbers then Number t.lo t.hi else Unknown

-- the words of the frame that have a byte whose offset lies from lo to hi: of one word its plain fact is read
abbrev pub frame_read : Facts → ℤ → ℕ → Fact
frame_read facts first count = if count == 1 then plain (facts first) else any_of (together facts first count)

-- what is read of a word of a region whose offset lies from lo to hi
unfoldable pub word_read : Contents → State → Region → ℤ → ℤ → Fact
word_read m s region lo hi =
    if is_frame region then frame_read s.frame (word_of_byte lo) (words_touched lo (hi +ℤ pos 1))
    else number_within (region_range m s.context region lo (hi +ℤ pos 4))

-- what is read of a byte of a region whose offset lies from lo to hi
unfoldable pub byte_read : State → Region → ℤ → ℤ → Fact
byte_read s region lo hi =
    if is_frame region && not (together s.frame (word_of_byte lo) (words_touched lo (hi +ℤ pos 1))).are_numbers
    then Unknown else Number (pos 0) (pos 255)

-- ---- what is written

-- the context may write the bytes of a region from the first up to `end`
unfoldable pub writes_bytes : Site → State → Region → ℤ → ℤ → Ruling → Ruling
writes_bytes site s region first end next =
    if may_write_bytes site.contents s.context region first end then next else breaks rules.Pointer

-- the range in which the words of a region are kept: that of a parameter's region
abbrev pub wanted_range : Contents → ℕ → Region → Ends
wanted_range m context regions.Frame = full
wanted_range m context regions.Constants = full
wanted_range m context (regions.Parameter j) = parameter_range m context j

-- a number in a range
abbrev pub is_number_in : Ends → Fact → Bool
is_number_in range (Number lo hi) = lies_within lo hi range.lo range.hi
is_number_in range _ = false

-- any word is in the range
abbrev pub is_full : Ends → Bool
is_full range = lies_within least_word greatest_word range.lo range.hi

-- any number may be kept where a pointer leads: the words of a parameter's region may have a range
unfoldable pub takes_any : Contents → ℕ → Fact → Bool
takes_any m context (Pointer region lo hi step) = is_full (wanted_range m context region)
takes_any m context _ = true

-- what is left of a word that may have been replaced by one of which this is known
abbrev pub widened_by : Fact → Leaving
widened_by (Number lo hi) = Widen lo hi
widened_by _ = Become Unknown

-- where a byte is stored: a number may be any
abbrev pub stored_byte : Leaving
stored_byte = Widen least_word greatest_word

-- words of the frame are left so where they have a byte from the first to which a pointer may lead up to `end`
unfoldable pub leaves_words : Pointed → ℤ → Leaving → State → State
leaves_words p end leaving s =
    if is_frame p.region then after_change (on_span (word_of_byte p.lo) (words_touched p.lo end) leaving) s else s
