-- The rules of instructions that make pointers, and of those that read and write memory through them.
use Rattle.std.specs.Prelude.{ℕ, ◌+◌, ◌-◌, ◌&&◌, ◌||◌, nat_lt, nat_le, ℤ, pos, negsuc, ◌+ℤ◌, ◌*ℤ◌, int_le, Bool}
use Rattle.std.specs.Prelude.{if◌then◌else◌, length, Result, Ok, Err}
use Rattle.module_format.specs.Rows.{Fact}
use Rattle.module_format.specs.declared.fact.Fact.TheVariants.{Number, Pointer, CodeAddress}
use Rattle.module_format.specs.declared.fact.Region.{Region}
use Rattle.module_format.specs.declared.fact.Region.TheVariants as regions
use Rattle.module_format.specs.declared.fact.Step.{Step}
use Rattle.module_format.specs.declared.fact.Step.TheVariants.{Byte, Word}
use Rattle.module_format.specs.Regions.{is_frame}
use Rattle.module_format.specs.Order.{is_stepped, least_word, greatest_word}
use Rattle.module_format.specs.Contents.{Contents}
use Rattle.machine_state.specs.World.{padding}
use Rattle.states.specs.declared.rule.Rule.{Rule}
use Rattle.states.specs.declared.rule.Rule.TheVariants as rules
use Rattle.word_arithmetic.specs.Range.{full}
use Rattle.states.specs.State.{State, known, is_same_number as is_same}
use Rattle.states.specs.declared.span.Leaving.{Leaving}
use Rattle.states.specs.declared.span.Leaving.TheVariants.{Become}
use Rattle.rulings.specs.Rulings.{in_bounds, Ruling, Site, alone, outside_starts, uses, goes_on, pop, with_a, settles}
use Rattle.rulings.specs.declared.pointers.Pointed.{Pointed}
use Rattle.rulings.specs.declared.pointers.Bounds.{Bounds}
use Rattle.rulings.specs.Pointers.{are_near, byte_read, constant_of, is_full, is_number_in, leaves_words}
use Rattle.rulings.specs.Pointers.{bounds_of, pointer_of, reads_bytes, stored_byte, wanted_range, widened_by}
use Rattle.rulings.specs.Pointers.{word_read, writes_bytes}

-- A becomes this, outside alternations and starts
abbrev pub with_fact_a : Site → Fact → State → Ruling
with_fact_a site fact s = alone s.mode (goes_on site (with_a (known fact) s))

-- ---- pointers that are made

-- the fact of a pointer, if its offsets are near
unfoldable pub near_fact : Region → ℤ → ℤ → Step → Result Fact Rule
near_fact region lo hi step = if are_near lo hi then Ok (Pointer region lo hi step) else Err rules.Pointer

-- a number of 32 bits
abbrev pub is_of_a_word : ℤ → Bool
is_of_a_word z = int_le least_word z && int_le z greatest_word

-- a number whose bounds are words
unfoldable pub word_fact : ℤ → ℤ → Result Fact Rule
word_fact lo hi = if is_of_a_word lo && is_of_a_word hi then Ok (Number lo hi) else Err rules.Number

-- `by` bytes further: a number, or a pointer
unfoldable pub shifted : ℤ → Fact → Result Fact Rule
shifted by (Number lo hi) = word_fact (lo +ℤ by) (hi +ℤ by)
shifted by (Pointer region lo hi step) =
    if are_near lo hi then near_fact region (lo +ℤ by) (hi +ℤ by) step else Err rules.Pointer
shifted by _ = Err rules.Number

-- ldnlp: A is e words further
abbrev pub shifts_pointer : Site → ℤ → State → Ruling
shifts_pointer site e s =
    uses s.stack.a (λ a. settles (shifted (pos 4 *ℤ e) a) (λ fact.
    outside_starts s.mode (goes_on site (with_a (known fact) s))))

-- a pointer that is further by a number between two others
abbrev pub pointer_further : Pointed → ℤ → ℤ → Step → Result Fact Rule
pointer_further p low high step = near_fact p.region (p.lo +ℤ low) (p.hi +ℤ high) step

-- the step of a pointer after a shift by a number of bytes
abbrev pub step_after : Step → Bounds → Step
step_after step r = if is_same r.lo r.hi && is_stepped r.lo then step else Byte

-- what a pointer is, shifted by a number of bytes or words
unfoldable pub element_of : Step → Pointed → Bounds → Result Fact Rule
element_of Byte p r = pointer_further p r.lo r.hi (step_after p.step r)
element_of Word p r = pointer_further p (pos 4 *ℤ r.lo) (pos 4 *ℤ r.hi) p.step

-- bsub, wsub: the byte, or the word, of number B after A
abbrev pub subscripts : Step → Site → State → Ruling
subscripts element site s =
    uses s.stack.a (λ a. uses s.stack.b (λ b. settles (bounds_of b) (λ r. settles (pointer_of a) (λ p.
    settles (element_of element p r) (λ fact. with_fact_a site fact (pop s))))))

-- the address of a place at this offset from the first byte of the code: it is one of the code, or of the constants,
-- which begin at a word
unfoldable pub place_fact : Contents → ℤ → Result Fact Rule
place_fact m (negsuc n) = Err rules.Pointer
place_fact m (pos n) =
    let behind = length m.code + padding (length m.code) in
    if nat_lt n (length m.code) then Ok (CodeAddress n)
    else if nat_le behind n && nat_lt n (behind + length m.constants)
    then Ok (Pointer regions.Constants (pos (n - behind)) (pos (n - behind))
    (if is_stepped (pos (n - behind)) then Word else Byte))
    else Err rules.Pointer

-- ldpi: the address at this distance after the instruction
abbrev pub loads_place : Site → State → Ruling
loads_place site s =
    uses s.stack.a (λ a. settles (constant_of a) (λ v.
    settles (place_fact site.contents (pos (site.at + site.length) +ℤ v)) (λ fact. with_fact_a site fact s)))

-- ---- words and bytes that are read

-- a pointer to words, if its offsets are near
unfoldable pub words_at : Region → ℤ → ℤ → Result Pointed Rule
words_at region lo hi =
    if are_near lo hi then Ok (record { region = region; lo = lo; hi = hi; step = Word }) else Err rules.Pointer

-- what a pointer to words is `by` bytes further
unfoldable pub words_behind : ℤ → Pointed → Result Pointed Rule
words_behind by p = elim p.step [ Byte ↦ Err rules.Pointer | Word ↦ words_at p.region (p.lo +ℤ by) (p.hi +ℤ by) ]

-- ldnl: the word e words after A
abbrev pub loads_word : Site → ℤ → State → Ruling
loads_word site e s =
    uses s.stack.a (λ a. settles (pointer_of a) (λ p. settles (words_behind (pos 4 *ℤ e) p) (λ p.
    reads_bytes site s p.region p.lo (p.hi +ℤ pos 4)
    (with_fact_a site (word_read site.contents s p.region p.lo p.hi) s))))

-- lb: the byte at A
abbrev pub loads_byte : Site → State → Ruling
loads_byte site s =
    uses s.stack.a (λ a. settles (pointer_of a) (λ p.
    reads_bytes site s p.region p.lo (p.hi +ℤ pos 1) (with_fact_a site (byte_read s p.region p.lo p.hi) s)))

-- ---- words and bytes that are written

-- B may be stored as a word where A points: in a word of the frame whatever it is, elsewhere as a number, which a
-- parameter's region keeps in its range
unfoldable pub may_store_word : Contents → ℕ → Fact → Fact → Bool
may_store_word m context (Pointer region lo hi step) b =
    (is_frame region && is_same lo hi) || is_number_in (wanted_range m context region) b
may_store_word m context _ b = is_number_in full b

-- B may be stored as a byte where A points: it is a number, and a parameter's region may hold any
unfoldable pub may_store_byte : Contents → ℕ → Fact → Fact → Bool
may_store_byte m context (Pointer region lo hi step) b = is_full (wanted_range m context region) && is_number_in full b
may_store_byte m context _ b = is_number_in full b

-- what a pointer leaves of the words to which it may lead, where a word is stored: of one word what is known of B
abbrev pub stored_word : Pointed → Fact → Leaving
stored_word p b = if is_same p.lo p.hi then Become b else widened_by b

-- A and B are used up, outside alternations and starts
abbrev pub pops_two : Site → State → Ruling
pops_two site s = alone s.mode (goes_on site (pop (pop s)))

-- `size` bytes are written wherever a pointer leads, and A and B are used up
abbrev pub writes_through : Site → Pointed → ℤ → Leaving → State → Ruling
writes_through site p size leaving s =
    let end = p.hi +ℤ size in
    writes_bytes site s p.region p.lo end (pops_two site (leaves_words p end leaving s))

-- stnl: B becomes the word e words after A
abbrev pub stores_word : Site → ℤ → State → Ruling
stores_word site e s =
    uses s.stack.a (λ a. uses s.stack.b (λ b. in_bounds (may_store_word site.contents s.context a b)
    (settles (pointer_of a) (λ p. settles (words_behind (pos 4 *ℤ e) p) (λ p.
    writes_through site p (pos 4) (stored_word p b) s)))))

-- sb: the low byte of B becomes the byte at A
abbrev pub stores_byte : Site → State → Ruling
stores_byte site s =
    uses s.stack.a (λ a. uses s.stack.b (λ b. in_bounds (may_store_byte site.contents s.context a b)
    (settles (pointer_of a) (λ p. writes_through site p (pos 1) stored_byte s))))
