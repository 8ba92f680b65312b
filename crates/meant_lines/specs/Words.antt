-- The words of the frame in memory, those that code may change and those that it leaves.
use Rattle.std.specs.Prelude.{◌≡◌, ◌≢◌, ℕ, ◌+◌, ◌*◌, ◌<◌, ◌≤◌, ◌⊎◌, ℤ, pos, ◌-ℤ◌, ◌+ℤ◌, FitsSigned, length, Some}
use Rattle.std.specs.Prelude.{Option}
use Rattle.std.specs.Int.{w32}
use Rattle.module_format.specs.declared.limits.TheConstants.{MAX_DATA_WORDS}
use Rattle.machine_state.specs.Memory.{Memory, place_of, local_address, byte_at, word_at, with_word}
use Rattle.machine_state.specs.Memory.{with_byte}
use Rattle.machine_state.specs.LocalStep.{address, word_of, copied}
use Rattle.code_pieces.specs.Pieces.{counted}
use Rattle.placed_code.specs.StraightPieces.{word_address, word_place}

-- no frame has more words than the data area may have
abbrev pub IsInFrame : ℕ → Type 0
IsInFrame word = word < MAX_DATA_WORDS

-- the word of the frame lies in memory
abbrev pub HasFrameWord : Memory → ℕ → Type 0
HasFrameWord m word = word_place word + 4 ≤ length m

-- what is in a word of the frame
abbrev pub Holds : Memory → ℕ → ℤ → Type 0
Holds m word v = word_at m (word_place word) ≡ Some v

-- a word of the frame is v from now on
abbrev pub with_frame_word : ℕ → ℤ → Memory → Memory
with_frame_word word v m = with_word m (word_place word) (Some v)

-- Of memory only words of the frame from the one to before the other may have changed, and it has as many bytes.
pub record ChangesWithin (first end : ℕ) (old new : Memory) : Type 0 where
  pub bytes : (place : ℕ) → (place < word_place first) ⊎ (word_place end ≤ place)
      → byte_at new place ≡ byte_at old place
  pub size : length new ≡ length old

-- ---- where words are

-- At a workspace of the frame the operand of a word names this word.
abbrev pub OperandsNameWords : Type 0
OperandsNameWords = (depth word : ℕ) → IsInFrame depth → IsInFrame word
    → local_address (word_address depth) (pos word -ℤ pos depth) ≡ word_address word

abbrev pub WordsHavePlaces : Type 0
WordsHavePlaces = (word : ℕ) → IsInFrame word → place_of (word_address word) ≡ word_place word

-- So do the bytes after the first one of a word.
abbrev pub BytesHavePlaces : Type 0
BytesHavePlaces = (word n : ℕ) → IsInFrame word → n < 4 * MAX_DATA_WORDS
    → place_of (word_address word + n) ≡ word_place word + n

-- An element of an array of words is at the word that is so many words further.
abbrev pub ElementsHaveAddresses : Type 0
ElementsHaveAddresses = (word i : ℕ) → IsInFrame (word + i)
    → local_address (word_address word) (pos i) ≡ word_address (word + i)

-- An address that a register has as a word is read from its bits.
pub record AddressesReadBack : Type 0 where
  pub word : (word : ℕ) → IsInFrame word → address (word_of (word_address word)) ≡ word_address word
  pub byte : (word n : ℕ) → IsInFrame word → n < 4 * MAX_DATA_WORDS
      → address (word_of (word_address word + n)) ≡ word_address word + n
  pub further : (a : ℕ) (e : ℤ) → address (word_of (local_address a e)) ≡ local_address a e

-- A number of words further, and then another one, it is both numbers further.
abbrev pub AddressesMoveTwice : Type 0
AddressesMoveTwice = (a : ℕ) (i e : ℤ) → FitsSigned w32 i → FitsSigned w32 e → FitsSigned w32 (i +ℤ e)
    → local_address (local_address a i) e ≡ local_address a (i +ℤ e)

-- few words are counted as they are
abbrev pub WordsAreCounted : Type 0
WordsAreCounted = (word : ℕ) → IsInFrame word → counted word ≡ word

-- ---- what is kept

pub record OtherWordsStay : Type 0 where
  -- nothing was written
  pub alike : (first end : ℕ) (m : Memory) → ChangesWithin first end m m
  -- one after the other
  pub following : (first end : ℕ) (a b c : Memory) → ChangesWithin first end a b → ChangesWithin first end b c
      → ChangesWithin first end a c
  -- among more words
  pub wider : (less first end more : ℕ) (a b : Memory) → less ≤ first → end ≤ more → ChangesWithin first end a b
      → ChangesWithin less more a b
  -- another word
  pub word : (first end other : ℕ) (a b : Memory) → (other < first) ⊎ (end ≤ other) → ChangesWithin first end a b
      → word_at b (word_place other) ≡ word_at a (word_place other)
  -- a word was written
  pub writing : (first end written : ℕ) (m : Memory) (v : ℤ) → first ≤ written → written < end
      → ChangesWithin first end m (with_frame_word written v m)
  -- a byte was written
  pub byte : (first end place : ℕ) (m : Memory) (b : Option ℕ) → word_place first ≤ place → place < word_place end
      → ChangesWithin first end m (with_byte m place b)
  -- bytes were copied
  pub copying : (first end source to count : ℕ) (m : Memory) → word_place first ≤ to → to + count ≤ word_place end
      → ChangesWithin first end m (copied m source to count m)

pub record FrameWordsReadBack : Type 0 where
  -- what was written is there
  pub back : (m : Memory) (word : ℕ) (v : ℤ) → HasFrameWord m word → FitsSigned w32 v
      → Holds (with_frame_word word v m) word v
  -- other words are as they were
  pub others : (m : Memory) (word other : ℕ) (v : ℤ) → other ≢ word
      → word_at (with_frame_word word v m) (word_place other) ≡ word_at m (word_place other)
