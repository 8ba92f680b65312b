-- Sets of code offsets, as words of which each has the bits of 64 offsets.
use Rattle.std.specs.Prelude.{◌≡◌, ◌==◌, ℕ, ◌/◌, ◌%◌, Bool, List, slice_index}
use Rattle.std.specs.List.{list_any}
use Rattle.std.specs.Int.{bit_at}

-- whether an offset's bit is set
abbrev pub has_offset : List ℕ → ℕ → Bool
has_offset words at = bit_at (slice_index words (at / 64)) (at % 64) == 1

-- the bits are those of the offsets of a list
pub record IsSetOf (words : List ℕ) (offsets : List ℕ) : Type 0 where
  pub each : (at : ℕ) → has_offset words at ≡ list_any (λ other. other == at) offsets
