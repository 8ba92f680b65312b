-- Memory reads back what was written, and elsewhere nothing changes.
use Rattle.std.proofs.Common.{◌≡◌, ◌≢◌, ℕ, ◌+◌, ◌*◌, ◌/◌, ◌%◌, ◌<◌, ◌≤◌, ◌⊎◌, inl, inr, ℤ, FitsSigned, Option, Some}
use Rattle.std.proofs.Common.{None, length, ap, ◌∙◌, arith}
use Rattle.std.proofs.lemmas.List.{get_or-set_same, get_or-set_other, length-set, get_or_past}
use Rattle.std.proofs.lemmas.Bool.{cases_lt}
use Rattle.std.proofs.lemmas.Int.{ints, to_z-of_z}
use Rattle.std.specs.Option.{option_map}
use Rattle.std.specs.Int.{w32, cast_unsigned, cast_signed}
use Rattle.machine_state.specs.Memory.{Memory, byte_at, with_byte, word_from_bytes, word_at, byte_worth, with_word}
use Rattle.machine_state.specs.MemoryLaws.{ByteReadsBack, WordReadsBack, UndefinedReadsBack, ByteElsewhereStays}
use Rattle.machine_state.specs.MemoryLaws.{WordBesideByteStays, ByteBesideWordStays, WordElsewhereStays}
use Rattle.machine_state.specs.MemoryLaws.{ByteKeepsLength, WordKeepsLength}

-- ---- lengths

pub length-with_byte : ByteKeepsLength
length-with_byte m place byte = length-set m place byte

pub length-with_word : WordKeepsLength
unfolding with_word
length-with_word m place word = simp length-set

-- ---- bytes

pub byte_at-with_byte : ByteReadsBack
byte_at-with_byte m place byte inside = get_or-set_same m place byte None inside

pub byte_at-with_byte_other : ByteElsewhereStays
byte_at-with_byte_other m place other byte apart = get_or-set_other m place other byte None apart

-- each byte of a word that was written
byte_at-with_word_0 : (m : Memory) (place : ℕ) (word : Option ℤ) → place < length m
    → byte_at (with_word m place word) place ≡ option_map (byte_worth 1) word
unfolding with_word
byte_at-with_word_0 m place word inside =
    let a : place ≢ place + 1 = omega arith in
    let b : place ≢ place + 2 = omega arith in
    let c : place ≢ place + 3 = omega arith in
    rw (get_or-set_other, get_or-set_other, get_or-set_other, get_or-set_same)

byte_at-with_word_1 : (m : Memory) (place : ℕ) (word : Option ℤ) → place + 1 < length m
    → byte_at (with_word m place word) (place + 1) ≡ option_map (byte_worth 256) word
unfolding with_word
byte_at-with_word_1 m place word inside =
    let b : place + 1 ≢ place + 2 = omega arith in
    let c : place + 1 ≢ place + 3 = omega arith in
    let within : place + 1 < length (with_byte m place (option_map (byte_worth 1) word)) = rw length-set inside in
    rw (get_or-set_other, get_or-set_other, get_or-set_same)

byte_at-with_word_2 : (m : Memory) (place : ℕ) (word : Option ℤ) → place + 2 < length m
    → byte_at (with_word m place word) (place + 2) ≡ option_map (byte_worth 65536) word
unfolding with_word
byte_at-with_word_2 m place word inside =
    let c : place + 2 ≢ place + 3 = omega arith in
    let within : place + 2 < length
    (with_byte (with_byte m place (option_map (byte_worth 1) word)) (place + 1)
    (option_map (byte_worth 256) word)) = simp length-set inside in
    rw (get_or-set_other, get_or-set_same)

byte_at-with_word_3 : (m : Memory) (place : ℕ) (word : Option ℤ) → place + 3 < length m
    → byte_at (with_word m place word) (place + 3) ≡ option_map (byte_worth 16777216) word
unfolding with_word
byte_at-with_word_3 m place word inside =
    let within : place + 3 < length
    (with_byte (with_byte (with_byte m place (option_map (byte_worth 1) word)) (place + 1)
    (option_map (byte_worth 256) word)) (place + 2) (option_map (byte_worth 65536) word)) = simp
    length-set inside in
    rw get_or-set_same

-- the bytes outside it
byte_beside_word : (m : Memory) (place other : ℕ) (word : Option ℤ) → other ≢ place → other ≢ place + 1
    → other ≢ place + 2 → other ≢ place + 3 → byte_at (with_word m place word) other ≡ byte_at m other
unfolding with_word
byte_beside_word m place other word a b c d = rw
    (get_or-set_other, get_or-set_other, get_or-set_other, get_or-set_other)

pub byte_at-with_word_other : ByteBesideWordStays
byte_at-with_word_other m place other word (inl below) = byte_beside_word m place other word (omega arith)
    (omega arith) (omega arith) (omega arith)
byte_at-with_word_other m place other word (inr above) = byte_beside_word m place other word (omega arith)
    (omega arith) (omega arith) (omega arith)

-- ---- words

-- four digits at base 256
four_bytes : (n : ℕ) → n < 4294967296
    → (n / 1) % 256 + 256 * ((n / 256) % 256) + 65536 * ((n / 65536) % 256) + 16777216 * ((n / 16777216) % 256) ≡ n
four_bytes n below = omega arith

cast_unsigned_below : (v : ℤ) → FitsSigned w32 v → cast_unsigned w32 v < 4294967296
cast_unsigned_below v fits = omega (arith, ints)

-- two memories whose bytes at a word agree
pub word_at_same : (m n : Memory) (place : ℕ) → byte_at m place ≡ byte_at n place
    → byte_at m (place + 1) ≡ byte_at n (place + 1) → byte_at m (place + 2) ≡ byte_at n (place + 2)
    → byte_at m (place + 3) ≡ byte_at n (place + 3) → word_at m place ≡ word_at n place
unfolding word_at
word_at_same m n place a b c d = rw (a, b, c, d)

pub word_at-with_byte_other : WordBesideByteStays
word_at-with_byte_other m place other byte (inl below) =
    let apart : (q : ℕ) → q ≢ place
    → byte_at (with_byte m place byte) q ≡ byte_at m q = λ q. byte_at-with_byte_other m place q byte in
    word_at_same _ _ other (apart other (omega arith)) (apart (other + 1) (omega arith))
    (apart (other + 2) (omega arith)) (apart (other + 3) (omega arith))
word_at-with_byte_other m place other byte (inr above) =
    let apart : (q : ℕ) → q ≢ place
    → byte_at (with_byte m place byte) q ≡ byte_at m q = λ q. byte_at-with_byte_other m place q byte in
    word_at_same _ _ other (apart other (omega arith)) (apart (other + 1) (omega arith))
    (apart (other + 2) (omega arith)) (apart (other + 3) (omega arith))

pub word_at-with_word_other : WordElsewhereStays
word_at-with_word_other m place other word (inl below) =
    let apart : (q : ℕ) → q < place
    → byte_at (with_word m place word) q ≡ byte_at m q = λ q h. byte_at-with_word_other m place q word (inl h) in
    word_at_same _ _ other (apart other (omega arith)) (apart (other + 1) (omega arith))
    (apart (other + 2) (omega arith)) (apart (other + 3) (omega arith))
word_at-with_word_other m place other word (inr above) =
    let apart : (q : ℕ) → place + 4 ≤ q
    → byte_at (with_word m place word) q ≡ byte_at m q = λ q h. byte_at-with_word_other m place q word (inr h) in
    word_at_same _ _ other (apart other (omega arith)) (apart (other + 1) (omega arith))
    (apart (other + 2) (omega arith)) (apart (other + 3) (omega arith))

-- the bytes of a word make the word
joined_bytes : (v : ℤ) → FitsSigned w32 v → word_from_bytes (Some (byte_worth 1 v)) (Some (byte_worth 256 v))
    (Some (byte_worth 65536 v)) (Some (byte_worth 16777216 v)) ≡ Some v
joined_bytes v fits = ap Some
    (ap (cast_signed w32) (four_bytes (cast_unsigned w32 v) (cast_unsigned_below v fits)) ∙ to_z-of_z w32 v fits)

word_at_of_bytes : (m : Memory) (place : ℕ) (p q r s : Option ℕ) → byte_at m place ≡ p → byte_at m (place + 1) ≡ q
    → byte_at m (place + 2) ≡ r → byte_at m (place + 3) ≡ s → word_at m place ≡ word_from_bytes p q r s
unfolding word_at
word_at_of_bytes m place p q r s a b c d = rw (a, b, c, d)

pub word_at-with_word : WordReadsBack
word_at-with_word m place v inside fits =
    word_at_of_bytes (with_word m place (Some v)) place _ _ _ _ (byte_at-with_word_0 m place (Some v) (omega arith))
    (byte_at-with_word_1 m place (Some v) (omega arith)) (byte_at-with_word_2 m place (Some v) (omega arith))
    (byte_at-with_word_3 m place (Some v) (omega arith))
    ∙ joined_bytes v fits

-- an undefined byte makes its word undefined
undefined_first : (m : Memory) (place : ℕ) → byte_at m place ≡ None → word_at m place ≡ None
unfolding word_at
undefined_first m place a = rw a

undefined_byte : (m : Memory) (place : ℕ) → (place < length m) ⊎ (length m ≤ place)
    → byte_at (with_word m place None) place ≡ None
undefined_byte m place (inl inside) = byte_at-with_word_0 m place None inside
undefined_byte m place (inr past) = get_or_past (with_word m place None) place None
    (rw (length-with_word m place None) past)

pub word_at-with_word_undefined : UndefinedReadsBack
word_at-with_word_undefined m place = undefined_first (with_word m place None) place
    (undefined_byte m place (cases_lt place (length m)))

pub ruleset reading_back = (byte_at-with_byte, word_at-with_word, word_at-with_word_undefined)

pub ruleset elsewhere =
    (byte_at-with_byte_other, word_at-with_byte_other, byte_at-with_word_other, word_at-with_word_other)

pub ruleset lengths = (length-with_byte, length-with_word)
