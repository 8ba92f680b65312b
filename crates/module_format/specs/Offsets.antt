-- Rows at code offsets.
use Rattle.std.specs.Prelude.{◌≡◌, ◌≢◌, ℕ, ◌<◌, List, length, slice_index_or}
use Rattle.std.specs.List.Sorted.{IsNonDecreasingBy}
use Rattle.module_format.specs.Rows.{ProcedureRow}

-- no row is at the offset
abbrev pub IsNowhere : {X : Type 0} → (X → ℕ) → List X → ℕ → Type 0
IsNowhere {X} offset xs at = (k : ℕ) (d : X) → k < length xs → offset (slice_index_or xs k d) ≢ at

-- the first row at the offset has index n
pub record IsFirst {X : Type 0} (offset : X → ℕ) (xs : List X) (at n : ℕ) (x : X) : Type 0 where
  pub inside : n < length xs
  pub is : x ≡ slice_index_or xs n x
  pub here : offset x ≡ at
  pub before : (k : ℕ) (d : X) → k < n → offset (slice_index_or xs k d) ≢ at

-- procedure rows in the order of their entries
abbrev pub ProceduresRise : List ProcedureRow → Type 0
ProceduresRise rows = IsNonDecreasingBy (λ (row : ProcedureRow). row.entry) rows
