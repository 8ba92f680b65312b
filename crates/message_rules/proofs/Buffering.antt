-- What a message leaves of a state, and what is known once its bytes are there.
use Rattle.std.proofs.Common.{◌≡◌, ℕ, ◌+◌, ◌≤◌, ◌<◌, ℤ, pos, ◌+ℤ◌, ◌≤ℤ◌, Bool, true, false, cond, ◌&&◌}
use Rattle.std.proofs.Common.{length, Option, Some, refl, sym, ap, ◌∙◌, arith}
use Rattle.std.proofs.lemmas.Int.{ints}
use Rattle.std.specs.Prelude.{nat_lt}
use Rattle.std.proofs.lemmas.Bool.{and_from}
use Rattle.small_laws.proofs.Comparisons.{le-int_le}
use Rattle.word_arithmetic.specs.Range.{full}
use Rattle.machine_state.specs.declared.process.Mode as machine
use Rattle.machine_state.specs.Memory.{Memory, byte_at}
use Rattle.machine_state.specs.Holding.{Holding}
use Rattle.machine_state.specs.Site.{Local}
use Rattle.module_format.specs.declared.fact.Region.{Region}
use Rattle.module_format.specs.declared.fact.Region.TheVariants as regions
use Rattle.module_format.specs.Regions.{is_frame}
use Rattle.module_format.specs.Contents.{Contents}
use Rattle.states.specs.declared.span.Leaving.TheVariants.{Become}
use Rattle.states.specs.State.{State, changed, is_same_number}
use Rattle.states.specs.Spans.{on_span, after_change}
use Rattle.rulings.specs.declared.pointers.Pointed.{Pointed}
use Rattle.rulings.specs.Meaning.{Activation, owed}
use Rattle.rulings.specs.Pointers.{wanted_range, is_full, number_within, stored_byte, leaves_words}
use Rattle.rulings.specs.Filling.{word_behind, words_within, filled, become_numbers}
use Rattle.rulings.specs.Reach.{word_of_byte, words_touched, lie_in, may_write_bytes}
use Rattle.rulings.specs.Buffers.{IsByte}
use Rattle.rulings.proofs.Within.{Within, ArePlain}
use Rattle.rulings.proofs.Words.{same_word_by}
use Rattle.rulings.proofs.Dues.{changed_dues}
use Rattle.rulings.proofs.Reaching.{region_place, lies_inside}
use Rattle.rulings.proofs.BlocksMove.{AreDefined, Room, Moved, numbers_into_frame, numbers_into_parameter}
use Rattle.message_rules.specs.MessageRules.{received}

-- the state is of the same context, and owes no more
pub record IsLeft (act : Activation) (s t : State) : Type 0 where
  pub context : t.context ≡ s.context
  pub depth : t.depth ≡ s.depth
  pub mode : t.mode ≡ s.mode
  pub owes : owed t act ≤ owed s act

pub received_left : (act : Activation) (p : Pointed) (end : ℤ) (s : State) → IsLeft act s (received p end s)
unfolding received filled become_numbers leaves_words after_change
received_left act p end s = on (is_same_number p.lo p.hi) (is_frame p.region) (nat_lt 0 (words_within p.lo end))
  where
    touched : State
    touched = after_change (on_span (word_of_byte p.lo) (words_touched p.lo end) stored_byte) s

    within : State → State
    within t = after_change (on_span (word_behind p.lo) (words_within p.lo end) (Become (number_within full))) t

    nothing : IsLeft act s s
    nothing = record { context = refl; depth = refl; mode = refl; owes = omega arith }

    some_touched : IsLeft act s touched
    some_touched =
        let less = changed_dues (on_span (word_of_byte p.lo) (words_touched p.lo end) stored_byte) s.frame act.turns in
        record { context = refl; depth = refl; mode = refl; owes = omega (arith, less) }

    some_within : IsLeft act s (within touched)
    some_within =
        let less = changed_dues (on_span (word_of_byte p.lo) (words_touched p.lo end) stored_byte) s.frame act.turns in
        let more = changed_dues
        (on_span (word_behind p.lo) (words_within p.lo end) (Become (number_within full)))
        (changed (on_span (word_of_byte p.lo) (words_touched p.lo end) stored_byte) s.frame) act.turns in
        record { context = refl; depth = refl; mode = refl; owes = omega (arith, less, more) }

    on : (exact frame some : Bool)
        → IsLeft act s
        (cond exact (cond (frame && some) (within (cond frame touched s)) (cond frame touched s))
        (cond frame touched s))
    on false false some = nothing
    on false true some = some_touched
    on true false some = nothing
    on true true false = some_touched
    on true true true = some_within

-- bytes of a region that lie among others
narrower : (size : Option ℕ) (low high first end : ℤ) → low ≤ℤ first → end ≤ℤ high → lie_in size low high ≡ true
    → lie_in size first end ≡ true
narrower size low high first end below above inside =
    let f = lies_inside size low high inside in
    let from = f.2 in
    let to = f.3 in
    ap (λ (o : Option ℕ). lie_in o first end) f.1
    ∙ and_from _ _ (le-int_le (pos 0) first (omega (arith, ints))) (le-int_le end (pos f.0) (omega (arith, ints)))

module _ {m : Contents} {h : Holding} {mode : machine.Mode} {act : Activation} {s : State} {l : Local}
    (a : Within ArePlain m h mode act s l) (later : Memory) (n : ℕ) (some : 0 < n) (p : Pointed) (offset : ℤ)
    (low : p.lo ≤ℤ offset) (high : offset ≤ℤ p.hi) where
  abbrev end : ℤ
  end = p.hi +ℤ pos n

  -- what is known once all the bytes are there, wherever the pointer leads
  pub received_into : may_write_bytes m s.context p.region p.lo end ≡ true
      → is_full (wanted_range m s.context p.region) ≡ true
      → (room : Room h (length l.memory) (region_place m act.layout p.region) offset n)
      → ((i : ℕ) → i < n → IsByte (byte_at later (room.place + i)))
      → Moved a later room.place room.place n (received p end s)
  unfolding may_write_bytes received filled become_numbers leaves_words
  received_into may wide room bytes =
      on (is_same_number p.lo p.hi) p.region (same_word_by p.lo p.hi) may wide room
      (λ i less. let byte = bytes i less in (byte.0, byte.1)) (λ i less c e. small i c (bytes i less) e)
    where
      touched : State
      touched = after_change (on_span (word_of_byte p.lo) (words_touched p.lo end) stored_byte) s

      small : (i c : ℕ) → IsByte (byte_at later (room.place + i)) → byte_at later (room.place + i) ≡ Some c → c < 256
      small i c byte e =
          let below = byte.2 in
          let one : Some byte.0 ≡ Some c = sym byte.1 ∙ e in
          let same : byte.0 ≡ c = cc in
          omega arith

      on : (exact : Bool) (region : Region) → (exact ≡ true → p.lo ≡ p.hi)
          → may_write_bytes m s.context region p.lo end ≡ true → is_full (wanted_range m s.context region) ≡ true
          → (room : Room h (length l.memory) (region_place m act.layout region) offset n)
          → AreDefined later room.place n
          → ((i : ℕ) → i < n → (c : ℕ) → byte_at later (room.place + i) ≡ Some c → c < 256)
          → Moved a later room.place room.place n
          (cond exact
          (cond (is_frame region && nat_lt 0 (words_within p.lo end))
          (after_change (on_span (word_behind p.lo) (words_within p.lo end) (Become (number_within full)))
          (cond (is_frame region) touched s)) (cond (is_frame region) touched s))
          (cond (is_frame region) touched s))
      on true regions.Frame exact may wide room defined bytes =
          numbers_into_frame a later room.place n some bytes offset p.lo end low (omega (arith, ints)) may room defined
          (nat_lt 0 (words_within p.lo end))
          (λ t. let one = exact refl in (omega (arith, ints, one), omega (arith, ints, one)))
      on false regions.Frame exact may wide room defined bytes =
          numbers_into_frame a later room.place n some bytes offset p.lo end low (omega (arith, ints)) may room defined
          false (λ t. absurd (cc))
      on exact regions.Constants e may wide room defined bytes = absurd (cc)
      on true (regions.Parameter j) exact may wide room defined bytes =
          numbers_into_parameter a later room.place n some bytes offset defined j room
          (narrower _ p.lo end offset (offset +ℤ pos n) low (omega (arith, ints)) may) wide
      on false (regions.Parameter j) exact may wide room defined bytes =
          numbers_into_parameter a later room.place n some bytes offset defined j room
          (narrower _ p.lo end offset (offset +ℤ pos n) low (omega (arith, ints)) may) wide
