-- What a queue may keep in the store's memory: each process in it in some bytes, by their places.
use Rattle.std.specs.Prelude.{◌≡◌, ℕ, Bool, true, false, List, length}
use Rattle.std.specs.List.{list_any}
use Rattle.machine_state.specs.Memory.{Memory, byte_at}

-- for a process and a place, whether a queue keeps the process in that byte
abbrev pub Keeping : Type 0
Keeping = ℕ → ℕ → Bool

-- whether it keeps one of the processes in the byte at the place
abbrev pub keeps_one_of : Keeping → List ℕ → ℕ → Bool
keeps_one_of keeps processes place = list_any (λ p. keeps p place) processes

-- only bytes in which it keeps one of the processes have changed
pub record ChangesKept (keeps : Keeping) (processes : List ℕ) (old new : Memory) : Type 0 where
  pub size : length new ≡ length old
  pub others : (place : ℕ) → keeps_one_of keeps processes place ≡ false → byte_at new place ≡ byte_at old place

-- the bytes in which it keeps one of the processes are the same
pub record AgreesOnKept (keeps : Keeping) (processes : List ℕ) (old new : Memory) : Type 0 where
  pub size : length new ≡ length old
  pub same : (place : ℕ) → keeps_one_of keeps processes place ≡ true → byte_at new place ≡ byte_at old place
