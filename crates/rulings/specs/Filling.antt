-- What bytes that come from elsewhere leave of the words of the frame.
use Rattle.std.specs.Prelude.{ℕ, ◌&&◌, nat_lt, ℤ, pos, negsuc, ◌+ℤ◌, ◌-ℤ◌, Bool, if◌then◌else◌}
use Rattle.word_arithmetic.specs.Range.{full}
use Rattle.module_format.specs.Rows.{Fact}
use Rattle.module_format.specs.declared.fact.Fact.TheVariants.{Unknown}
use Rattle.module_format.specs.Regions.{is_frame}
use Rattle.states.specs.declared.span.Leaving.TheVariants.{Become}
use Rattle.states.specs.State.{State}
use Rattle.states.specs.Spans.{on_span, after_change}
use Rattle.rulings.specs.Reach.{word_of_byte}
use Rattle.rulings.specs.declared.pointers.Pointed.{Pointed}
use Rattle.rulings.specs.Pointers.{is_number_in, byte_read, number_within, stored_byte, leaves_words}

-- what is known of each of `count` bytes from where a pointer leads
abbrev pub any_byte : State → Pointed → ℤ → Fact
any_byte s p count = byte_read s p.region p.lo (p.hi +ℤ count -ℤ pos 1)

-- all of them are bytes of numbers
abbrev pub are_numbers : State → Pointed → ℤ → Bool
are_numbers s p count = is_number_in full (any_byte s p count)

-- the first word that begins at an offset or after it
abbrev pub word_behind : ℤ → ℤ
word_behind offset = word_of_byte (offset +ℤ pos 3)

-- how many words have all their bytes from the first up to `end` (not included)
abbrev pub words_within : ℤ → ℤ → ℕ
words_within first end = elim (word_of_byte end -ℤ word_behind first) [ pos n ↦ n | negsuc n ↦ 0 ]

-- the words of the frame that have no other bytes than these are any numbers
unfoldable pub become_numbers : Pointed → ℤ → State → State
become_numbers p end s =
    if is_frame p.region && nat_lt 0 (words_within p.lo end)
    then after_change (on_span (word_behind p.lo) (words_within p.lo end) (Become (number_within full))) s else s

-- Bytes come from the first place to which a pointer leads up to `end`. Where all are bytes of numbers, a word that has
-- some of them may be any number if it was one; otherwise nothing is known of it. That is said first of all words with
-- such bytes, and then the words without other bytes become numbers, whatever they were.
unfoldable pub filled : Bool → Pointed → ℤ → State → State
filled numbers p end s =
    if numbers then become_numbers p end (leaves_words p end stored_byte s) else leaves_words p end (Become Unknown) s
