-- Memory is a list of bytes, each defined or not. A byte's place in the list is its address less that of the data
-- area.
use Rattle.std.specs.Prelude.{ℕ, ◌+◌, ◌-◌, ◌*◌, ◌/◌, ◌%◌, ◌^◌, ℤ, negsuc, List, Option, None, slice_index_or}
use Rattle.std.specs.Prelude.{slice_set}
use Rattle.std.specs.Option.{option_map, option_and_then}
use Rattle.std.specs.Int.{w32, cast_unsigned, cast_signed}

abbrev pub Memory : Type 0
Memory = List (Option ℕ)

-- the address of the first byte of the data area (our own choice)
abbrev pub data_start : ℕ
data_start = 0x80000100

-- the place of an address; the addresses before the data area have places far after its end
unfoldable pub place_of : ℕ → ℕ
place_of address = (address + (2 ^ 32 - data_start)) % 2 ^ 32

-- the address of word e from a workspace (T414 compiler writer's guide: W + 4e, modulo 2^32)
unfoldable pub local_address : ℕ → ℤ → ℕ
local_address workspace e = (workspace + 4 * cast_unsigned w32 e) % 2 ^ 32

-- the address of a word below a workspace, where 0 is the one just below; scheduling takes the words 0 to 2
abbrev pub scheduling_word : ℕ → ℕ → ℕ
scheduling_word workspace k = local_address workspace (negsuc k)

-- the byte at a place: none is undefined, or outside
abbrev pub byte_at : Memory → ℕ → Option ℕ
byte_at memory place = slice_index_or memory place None

abbrev pub with_byte : Memory → ℕ → Option ℕ → Memory
with_byte memory place byte = slice_set memory place byte

-- four bytes are a word, the least significant first; it is undefined where one of them is
abbrev pub word_from_bytes : Option ℕ → Option ℕ → Option ℕ → Option ℕ → Option ℤ
word_from_bytes p q r s =
    option_and_then (λ p. option_and_then (λ q. option_and_then (λ r.
    option_map (λ s. cast_signed w32 (p + 256 * q + 65536 * r + 16777216 * s)) s) r) q) p

unfoldable pub word_at : Memory → ℕ → Option ℤ
word_at memory place =
    word_from_bytes (byte_at memory place) (byte_at memory (place + 1)) (byte_at memory (place + 2))
    (byte_at memory (place + 3))

-- the byte of a word whose lowest bit is worth this
abbrev pub byte_worth : ℕ → ℤ → ℕ
byte_worth worth v = (cast_unsigned w32 v / worth) % 256

-- the word at a place is v from now on, which may be undefined
unfoldable pub with_word : Memory → ℕ → Option ℤ → Memory
with_word memory place v =
    let one = with_byte memory place (option_map (byte_worth 1) v) in
    let two = with_byte one (place + 1) (option_map (byte_worth 256) v) in
    let three = with_byte two (place + 2) (option_map (byte_worth 65536) v) in
    with_byte three (place + 3) (option_map (byte_worth 16777216) v)
