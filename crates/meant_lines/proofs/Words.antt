-- The words of the frame: where they are, and what code leaves of them.
use Rattle.std.proofs.Common.{◌≡◌, ◌≢◌, ℕ, zero, suc, ◌+◌, ◌^◌, ◌<◌, ◌≤◌, ◌⊎◌, inl, inr, ℤ, length, Option, Some}
use Rattle.std.proofs.Common.{refl, ◌∙◌, arith}
use Rattle.std.proofs.lemmas.Bool.{cases_lt}
use Rattle.std.proofs.lemmas.Int.{ints, of_z-to_z}
use Rattle.std.specs.Int.{w32}
use Rattle.machine_state.specs.Memory.{Memory, place_of, local_address, byte_at, with_byte, word_at}
use Rattle.machine_state.specs.LocalStep.{address, word_of, copied}
use Rattle.machine_state.proofs.Reading.{word_at_same, word_at-with_word, word_at-with_word_other}
use Rattle.machine_state.proofs.Reading.{byte_at-with_word_other, byte_at-with_byte_other, length-with_word}
use Rattle.machine_state.proofs.Reading.{length-with_byte}
use Rattle.machine_state.proofs.Copying.{copied-beside}
use Rattle.code_pieces.specs.Pieces.{counted}
use Rattle.placed_code.specs.StraightPieces.{word_address, word_place}
use Rattle.meant_lines.specs.Words.{OperandsNameWords, WordsHavePlaces, BytesHavePlaces, AddressesMoveTwice}
use Rattle.meant_lines.specs.Words.{ElementsHaveAddresses, AddressesReadBack}
use Rattle.meant_lines.specs.Words.{WordsAreCounted, ChangesWithin, OtherWordsStay, FrameWordsReadBack}
use Rattle.meant_lines.specs.Words.{IsInFrame, with_frame_word}

-- ---- where words are

pub operands_name_words : OperandsNameWords
unfolding local_address
operands_name_words depth word inside few = omega (arith, ints)

pub words_have_places : WordsHavePlaces
unfolding place_of
words_have_places word few = omega arith

pub bytes_have_places : BytesHavePlaces
unfolding place_of
bytes_have_places word n few near = omega arith

pub elements_have_addresses : ElementsHaveAddresses
unfolding local_address
elements_have_addresses word i few = omega (arith, few)

further_below : (a : ℕ) (e : ℤ) → local_address a e < 2 ^ 32
unfolding local_address
further_below a e = omega arith

pub address_reads_back : (word : ℕ) → IsInFrame word → address (word_of (word_address word)) ≡ word_address word
address_reads_back word few = of_z-to_z w32 (word_address word) (omega (arith, few))

pub addresses_read_back : AddressesReadBack
addresses_read_back = record {
  word = address_reads_back;
  byte = λ word n few near. of_z-to_z w32 (word_address word + n) (omega (arith, few, near));
  further = λ a e. of_z-to_z w32 (local_address a e) (further_below a e);
}

pub addresses_move_twice : AddressesMoveTwice
unfolding local_address
addresses_move_twice a i e first second both = omega (arith, ints)

pub words_are_counted : WordsAreCounted
unfolding counted
words_are_counted word few = omega arith

-- ---- what is kept

pub all_alike : (first end : ℕ) (m : Memory) → ChangesWithin first end m m
all_alike first end m = record { bytes = λ place apart. refl; size = refl }

pub changes_both : {first end : ℕ} {a b c : Memory} → ChangesWithin first end a b → ChangesWithin first end b c
    → ChangesWithin first end a c
changes_both x y = record {
  bytes = λ place apart. y.bytes place apart ∙ x.bytes place apart;
  size = y.size ∙ x.size;
}

apart_more : {less first end more place : ℕ} → less ≤ first → end ≤ more
    → (place < word_place less) ⊎ (word_place more ≤ place) → (place < word_place first) ⊎ (word_place end ≤ place)
apart_more low high (inl below) = inl (omega (arith, low, below))
apart_more low high (inr above) = inr (omega (arith, high, above))

pub changes_wider : {less first end more : ℕ} {a b : Memory} → less ≤ first → end ≤ more
    → ChangesWithin first end a b → ChangesWithin less more a b
changes_wider low high x = record {
  bytes = λ place apart. x.bytes place (apart_more low high apart);
  size = x.size;
}

-- each of its bytes is before or behind what changes
byte_apart : (first end other n : ℕ) → n < 4 → (other < first) ⊎ (end ≤ other)
    → (word_place other + n < word_place first) ⊎ (word_place end ≤ word_place other + n)
byte_apart first end other n few (inl below) = inl (omega (arith, few, below))
byte_apart first end other n few (inr above) = inr (omega (arith, above))

first_apart : (first end other : ℕ) → (other < first) ⊎ (end ≤ other)
    → (word_place other < word_place first) ⊎ (word_place end ≤ word_place other)
first_apart first end other (inl below) = inl (omega (arith, below))
first_apart first end other (inr above) = inr (omega (arith, above))

pub other_word : {first end : ℕ} {a b : Memory} (other : ℕ) → (other < first) ⊎ (end ≤ other)
    → ChangesWithin first end a b → word_at b (word_place other) ≡ word_at a (word_place other)
other_word {first = first} {end = end} {a = a} {b = b} other apart x =
    word_at_same b a (word_place other) (x.bytes (word_place other) (first_apart first end other apart))
    (x.bytes (word_place other + 1) (byte_apart first end other 1 (omega arith) apart))
    (x.bytes (word_place other + 2) (byte_apart first end other 2 (omega arith) apart))
    (x.bytes (word_place other + 3) (byte_apart first end other 3 (omega arith) apart))

word_written_apart : (first end written place : ℕ) → first ≤ written → written < end
    → (place < word_place first) ⊎ (word_place end ≤ place)
    → (place < word_place written) ⊎ (word_place written + 4 ≤ place)
word_written_apart first end written place low high (inl below) = inl (omega (arith, low, below))
word_written_apart first end written place low high (inr above) = inr (omega (arith, high, above))

pub changes_writing : (first end written : ℕ) (m : Memory) (v : ℤ) → first ≤ written → written < end
    → ChangesWithin first end m (with_frame_word written v m)
changes_writing first end written m v low high = record {
  bytes = λ place apart.
      byte_at-with_word_other m (word_place written) place (Some v)
      (word_written_apart first end written place low high apart);
  size = length-with_word m (word_place written) (Some v);
}

byte_written_apart : (first end place other : ℕ) → word_place first ≤ place → place < word_place end
    → (other < word_place first) ⊎ (word_place end ≤ other) → other ≢ place
byte_written_apart first end place other low high (inl below) = omega (arith, low, below)
byte_written_apart first end place other low high (inr above) = omega (arith, high, above)

pub changes_with_byte : (first end place : ℕ) (m : Memory) (b : Option ℕ) → word_place first ≤ place
    → place < word_place end → ChangesWithin first end m (with_byte m place b)
changes_with_byte first end place m b low high = record {
  bytes = λ other apart.
      byte_at-with_byte_other m place other b (byte_written_apart first end place other low high apart);
  size = length-with_byte m place b;
}

copied_size : (from : Memory) (source to count : ℕ) (m : Memory) → length (copied from source to count m) ≡ length m
unfolding copied
copied_size from source to zero m = refl
copied_size from source to (suc n) m =
    copied_size from (source + 1) (to + 1) n (with_byte m to (byte_at from source))
    ∙ length-with_byte m to (byte_at from source)

copied_apart : (first end to count place : ℕ) → word_place first ≤ to → to + count ≤ word_place end
    → (place < word_place first) ⊎ (word_place end ≤ place) → (place < to) ⊎ (to + count ≤ place)
copied_apart first end to count place low high (inl below) = inl (omega (arith, low, below))
copied_apart first end to count place low high (inr above) = inr (omega (arith, high, above))

pub changes_copied : (first end source to count : ℕ) (m : Memory) → word_place first ≤ to
    → to + count ≤ word_place end → ChangesWithin first end m (copied m source to count m)
changes_copied first end source to count m low high = record {
  bytes = λ place apart.
      copied-beside m source to count m place (copied_apart first end to count place low high apart);
  size = copied_size m source to count m;
}

pub other_words_stay : OtherWordsStay
other_words_stay = record {
  alike = all_alike;
  following = λ first end a b c x y. changes_both x y;
  wider = λ less first end more a b low high x. changes_wider low high x;
  word = λ first end other a b apart x. other_word other apart x;
  writing = changes_writing;
  byte = changes_with_byte;
  copying = changes_copied;
}

-- another word lies before or after it
beside : (word other : ℕ) → other ≢ word
    → (word_place other + 4 ≤ word_place word) ⊎ (word_place word + 4 ≤ word_place other)
beside word other apart = by_order (cases_lt other word)
  where
    by_order : (other < word) ⊎ (word ≤ other)
        → (word_place other + 4 ≤ word_place word) ⊎ (word_place word + 4 ≤ word_place other)
    by_order (inl below) = inl (omega (arith, below))
    by_order (inr above) = inr (omega (arith, above, apart))

pub frame_words_read_back : FrameWordsReadBack
frame_words_read_back = record {
  back = λ m word v inside fits. word_at-with_word m (word_place word) v inside fits;
  others = λ m word other v apart.
      word_at-with_word_other m (word_place word) (word_place other) (Some v) (beside word other apart);
}

pub ruleset frame_words = (
  operands_name_words,
  words_have_places,
  bytes_have_places,
  elements_have_addresses,
  addresses_read_back,
  addresses_move_twice,
  words_are_counted,
  other_words_stay,
  frame_words_read_back,
)
