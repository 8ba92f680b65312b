-- Memory reads back what was written, and elsewhere nothing changes.
use Rattle.std.specs.Prelude.{◌≡◌, ◌≢◌, ℕ, ◌+◌, ◌<◌, ◌≤◌, ◌⊎◌, ℤ, FitsSigned, Option, Some, None, length}
use Rattle.std.specs.Int.{w32}
use Rattle.machine_state.specs.Memory.{Memory, byte_at, with_byte, word_at, with_word}

abbrev pub ByteReadsBack : Type 0
ByteReadsBack = (m : Memory) (place : ℕ) (byte : Option ℕ) → place < length m
    → byte_at (with_byte m place byte) place ≡ byte

abbrev pub WordReadsBack : Type 0
WordReadsBack = (m : Memory) (place : ℕ) (v : ℤ) → place + 4 ≤ length m → FitsSigned w32 v
    → word_at (with_word m place (Some v)) place ≡ Some v

abbrev pub UndefinedReadsBack : Type 0
UndefinedReadsBack = (m : Memory) (place : ℕ) → word_at (with_word m place None) place ≡ None

-- a byte was written: the bytes at other places and the words that it is not in stay
abbrev pub ByteElsewhereStays : Type 0
ByteElsewhereStays = (m : Memory) (place other : ℕ) (byte : Option ℕ) → other ≢ place
    → byte_at (with_byte m place byte) other ≡ byte_at m other

abbrev pub WordBesideByteStays : Type 0
WordBesideByteStays = (m : Memory) (place other : ℕ) (byte : Option ℕ) → (place < other) ⊎ (other + 4 ≤ place)
    → word_at (with_byte m place byte) other ≡ word_at m other

-- a word was written: the bytes outside it and the words that it does not meet stay
abbrev pub ByteBesideWordStays : Type 0
ByteBesideWordStays = (m : Memory) (place other : ℕ) (word : Option ℤ) → (other < place) ⊎ (place + 4 ≤ other)
    → byte_at (with_word m place word) other ≡ byte_at m other

abbrev pub WordElsewhereStays : Type 0
WordElsewhereStays = (m : Memory) (place other : ℕ) (word : Option ℤ) → (other + 4 ≤ place) ⊎ (place + 4 ≤ other)
    → word_at (with_word m place word) other ≡ word_at m other

-- no write makes memory longer or shorter
abbrev pub ByteKeepsLength : Type 0
ByteKeepsLength = (m : Memory) (place : ℕ) (byte : Option ℕ) → length (with_byte m place byte) ≡ length m

abbrev pub WordKeepsLength : Type 0
WordKeepsLength = (m : Memory) (place : ℕ) (word : Option ℤ) → length (with_word m place word) ≡ length m
