-- What is known after the instructions of straight code that use an address, which may lead to several words or bytes.
use Rattle.std.specs.Prelude.{◌≡◌, ℤ, pos, ◌+ℤ◌, ◌*ℤ◌, true, if◌then◌else◌, Ok}
use Rattle.prefix_decoder.specs.declared.function.Fun.TheVariants as fun
use Rattle.module_format.specs.Rows.{Fact}
use Rattle.module_format.specs.declared.fact.Region.{Region}
use Rattle.module_format.specs.declared.fact.Step.{Step}
use Rattle.module_format.specs.declared.fact.Step.TheVariants.{Byte, Word}
use Rattle.module_format.specs.Regions.{is_frame}
use Rattle.module_format.specs.Stack.{mapped}
use Rattle.states.specs.declared.span.Leaving.{Leaving}
use Rattle.states.specs.Spans.{is_in_span, on_span}
use Rattle.states.specs.State.{State, known, forgets, changed}
use Rattle.rulings.specs.declared.pointers.Pointed.{Pointed}
use Rattle.rulings.specs.declared.pointers.Bounds.{Bounds}
use Rattle.rulings.specs.Reach.{word_of_byte, words_touched, may_read_bytes, may_write_bytes}
use Rattle.rulings.specs.Pointers.{pointer_of, bounds_of, word_read, byte_read}
use Rattle.rulings.specs.Pointers.{stored_byte}
use Rattle.local_rules.specs.MemoryRules.{shifted, words_behind, element_of, may_store_word, may_store_byte}
use Rattle.local_rules.specs.MemoryRules.{stored_word}
use Rattle.code_pieces.specs.declared.operations.TheConstants.{LOAD_BYTE, STORE_BYTE, BYTE_SUBSCRIPT, WORD_SUBSCRIPT}
use Rattle.code_pieces.specs.Pieces.{Direct, operates}
use Rattle.certified_lines.specs.StraightRules.{Setting, Told, state_of}
use Rattle.certified_lines.specs.Instructions.{PieceFalls, is_told, with_a, without_a, with_result}

-- ---- what is known afterwards

-- how much there is to pay from does not matter for what is read
abbrev pub told_state : Setting → Told → State
told_state g t = state_of g t 0

-- what is known of the words of the frame that have a byte from where a pointer leads up to `end`, if it leads there
abbrev pub with_left : Pointed → ℤ → Leaving → Told → Told
with_left p end leaving t =
    let first = word_of_byte p.lo in
    let count = words_touched p.lo end in
    if is_frame p.region
    then record {
      stack = mapped (forgets (is_in_span first count)) t.stack;
      frame = changed (on_span first count leaving) t.frame;
    }
    else t

-- ---- what is asked

-- the code's context may read the bytes of a region from the first up to `end`
abbrev pub MayReadBytes : Setting → Region → ℤ → ℤ → Type 0
MayReadBytes g region first end = may_read_bytes g.contents g.context region first end ≡ true

-- it may write them
abbrev pub MayWriteBytes : Setting → Region → ℤ → ℤ → Type 0
MayWriteBytes g region first end = may_write_bytes g.contents g.context region first end ≡ true

-- the fact is a pointer to words, and this is the pointer so many words further
pub record LeadsTo (fact : Fact) (e : ℤ) (to : Pointed) : Type 0 where
  pub from : Pointed
  pub is : pointer_of fact ≡ Ok from
  pub further : words_behind (pos 4 *ℤ e) from ≡ Ok to

-- ---- addresses

-- the address of another word, so many words further
abbrev pub FurtherAddressesAreKnown : Type 0
FurtherAddressesAreKnown = (g : Setting) (e : ℤ) (fact : Fact) (s : Told)
    → shifted (pos 4 *ℤ e) s.stack.a.fact ≡ Ok fact
    → PieceFalls g (Direct fun.LoadNonLocalPointer e) s (with_a (known fact) s)

-- a subscript in B selects an element of what A points to
abbrev pub Selects : Setting → Step → ℤ → Type 0
Selects g element operation = (r : Bounds) (p : Pointed) (fact : Fact) (s : Told) → bounds_of s.stack.b.fact ≡ Ok r
    → pointer_of s.stack.a.fact ≡ Ok p → element_of element p r ≡ Ok fact
    → PieceFalls g (operates operation) s (with_result (known fact) s)

abbrev pub SelectedWordsAreKnown : Type 0
SelectedWordsAreKnown = (g : Setting) → Selects g Word WORD_SUBSCRIPT

abbrev pub SelectedBytesAreKnown : Type 0
SelectedBytesAreKnown = (g : Setting) → Selects g Byte BYTE_SUBSCRIPT

-- ---- words and bytes

abbrev pub DistantWordsAreKnown : Type 0
DistantWordsAreKnown = (g : Setting) (e : ℤ) (p : Pointed) (s : Told) → LeadsTo s.stack.a.fact e p
    → MayReadBytes g p.region p.lo (p.hi +ℤ pos 4)
    → PieceFalls g (Direct fun.LoadNonLocal e) s
    (with_a (known (word_read g.contents (told_state g s) p.region p.lo p.hi)) s)

abbrev pub DistantStoresAreKnown : Type 0
DistantStoresAreKnown = (g : Setting) (e : ℤ) (p : Pointed) (s : Told) → LeadsTo s.stack.a.fact e p
    → is_told s.stack.b.fact ≡ true
    → may_store_word g.contents g.context s.stack.a.fact s.stack.b.fact ≡ true
    → MayWriteBytes g p.region p.lo (p.hi +ℤ pos 4)
    → PieceFalls g (Direct fun.StoreNonLocal e) s
    (without_a (without_a (with_left p (p.hi +ℤ pos 4) (stored_word p s.stack.b.fact) s)))

abbrev pub LoadedBytesAreKnown : Type 0
LoadedBytesAreKnown = (g : Setting) (p : Pointed) (s : Told) → pointer_of s.stack.a.fact ≡ Ok p
    → MayReadBytes g p.region p.lo (p.hi +ℤ pos 1)
    → PieceFalls g (operates LOAD_BYTE) s (with_a (known (byte_read (told_state g s) p.region p.lo p.hi)) s)

abbrev pub StoredBytesAreKnown : Type 0
StoredBytesAreKnown = (g : Setting) (p : Pointed) (s : Told) → pointer_of s.stack.a.fact ≡ Ok p
    → is_told s.stack.b.fact ≡ true
    → may_store_byte g.contents g.context s.stack.a.fact s.stack.b.fact ≡ true
    → MayWriteBytes g p.region p.lo (p.hi +ℤ pos 1)
    → PieceFalls g (operates STORE_BYTE) s
    (without_a (without_a (with_left p (p.hi +ℤ pos 1) stored_byte s)))
