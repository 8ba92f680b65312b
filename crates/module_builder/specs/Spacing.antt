-- Places as the layout keeps them: a list of where each item begins.
use Rattle.std.specs.Prelude.{◌≡◌, ◌+◌, ◌≤◌, ℕ, List, length, sum, slice_index}
use Rattle.module_format.specs.declared.limits.TheConstants.{MAX_LONG_CODE}
use Rattle.module_builder.specs.Layouts.{offset}

-- where each item begins by these lengths, and then the code's end, which is within the limit
pub record AreOffsets (lengths : List ℕ) (offsets : List ℕ) : Type 0 where
  pub count : length offsets ≡ length lengths + 1
  pub each : (k : ℕ) → k ≤ length lengths → slice_index offsets k ≡ offset lengths k
  pub short : sum lengths ≤ MAX_LONG_CODE
