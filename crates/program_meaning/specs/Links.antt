-- What a sequential program reads from its links and writes to them.
use Rattle.std.specs.Prelude.{ℕ, zero, suc, ◌+◌, ◌*◌, ◌/◌, ◌%◌, ℤ, pos, List, [], ◌∷◌, ◌++◌}
use Rattle.std.specs.Prelude.{take, drop, unwrap_or}
use Rattle.std.specs.Int.{w32, cast_signed, cast_unsigned}
use Rattle.occam_parser.specs.declared.tree.ValueType.{ValueType}
use Rattle.occam_parser.specs.declared.tree.ValueType.TheVariants as value_type
use Rattle.scalar_ranges.specs.Environments.{item_at}
use Rattle.program_uses.specs.declared.uses.Direction.{Direction}

-- a link of main: its direction, which of the four of this direction it is, and the type of what it carries
pub record Port : Type 0 where
  pub way : Direction
  pub link : ℕ
  pub carries : ValueType

-- the bytes that come in on a link: those that the program has read, and those that it has not
pub record Incoming : Type 0 where
  pub read : List ℕ
  pub unread : List ℕ

-- the four links in, and what was written to each of the four links out
pub record Links : Type 0 where
  pub incoming : List Incoming
  pub written : List (List ℕ)

-- ---- messages

-- how many bytes a message has
abbrev pub message_length : ValueType → ℕ
message_length value_type.Int = 4
message_length value_type.Byte = 1

-- the bytes of a number, the least significant one first
abbrev pub message_of : ValueType → ℤ → List ℕ
message_of value_type.Int v =
    let n = cast_unsigned w32 v in
    n % 256 ∷ n / 256 % 256 ∷ n / 65536 % 256 ∷ n / 16777216 % 256 ∷ []
message_of value_type.Byte v = cast_unsigned w32 v % 256 ∷ []

-- The number that the bytes of a message are. Whatever comes in is taken modulo 256.
abbrev pub received : ValueType → List ℕ → ℤ
received value_type.Int (p ∷ q ∷ r ∷ s ∷ []) =
    cast_signed w32 (p % 256 + 256 * (q % 256) + 65536 * (r % 256) + 16777216 * (s % 256))
received value_type.Byte (b ∷ []) = pos (b % 256)
received type bytes = pos 0

-- ---- links

abbrev pub nothing_came : Incoming
nothing_came = record { read = []; unread = [] }

abbrev pub incoming_at : ℕ → Links → Incoming
incoming_at link l = unwrap_or (item_at link l.incoming) nothing_came

-- the item at a place is changed
abbrev pub with_item : {A : Type 0} → (A → A) → ℕ → List A → List A
with_item f i [] = []
with_item f zero (x ∷ xs) = f x ∷ xs
with_item f (suc i) (x ∷ xs) = x ∷ with_item f i xs

-- this count of bytes more is read
abbrev pub read_on : ℕ → Incoming → Incoming
read_on count i = record { read = i.read ++ take count i.unread; unread = drop count i.unread }

abbrev pub after_reading : ℕ → ℕ → Links → Links
after_reading link count l = record { incoming = with_item (read_on count) link l.incoming; written = l.written }

abbrev pub after_writing : ℕ → List ℕ → Links → Links
after_writing link bytes l =
    record { incoming = l.incoming; written = with_item (λ before. before ++ bytes) link l.written }
