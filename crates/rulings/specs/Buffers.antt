-- The bytes of memory that a message comes to, or goes from.
use Rattle.std.specs.Prelude.{◌≡◌, ◌⊎◌, ℕ, zero, suc, ◌+◌, ◌==◌, ◌||◌, ◌%◌, ◌^◌, ◌<◌, Bool, true, false, length}
use Rattle.std.specs.Prelude.{Option, Some}
use Rattle.machine_state.specs.declared.process.Exchange.{Exchange}
use Rattle.machine_state.specs.Memory.{Memory, byte_at, place_of}
use Rattle.machine_state.specs.Holding.{Holding, may_read}

-- the place of byte j of a message
abbrev pub message_place : Exchange → ℕ → ℕ
message_place e j = place_of ((e.address + j) % 2 ^ 32)

-- the place is that of one of a number of bytes of a message from byte `j` on
abbrev pub is_filled : Exchange → ℕ → ℕ → ℕ → Bool
is_filled e j zero place = false
is_filled e j (suc more) place = (place == message_place e j) || is_filled e (j + 1) more place

-- the place is that of a byte of a message
abbrev pub is_of_message : Exchange → ℕ → Bool
is_of_message e place = is_filled e 0 e.length place

abbrev pub IsByte : Option ℕ → Type 0
IsByte o = (b : ℕ) × (o ≡ Some b) × (b < 256)

-- Of the bytes that a process may read only those have changed that it awaits, and they are bytes.
pub record Fills (h : Holding) (awaited : ℕ → Bool) (old new : Memory) : Type 0 where
  pub size : length new ≡ length old
  pub others : (place : ℕ) → may_read h place ≡ true → awaited place ≡ false → byte_at new place ≡ byte_at old place
  pub come : (place : ℕ) → may_read h place ≡ true → awaited place ≡ true
      → (byte_at new place ≡ byte_at old place) ⊎ IsByte (byte_at new place)
