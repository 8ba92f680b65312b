-- The bounds that the program has.
use Rattle.std.specs.Prelude.{ℕ, Result, Ok, Err}
use Rattle.word_arithmetic.specs.declared.ranges.Range.{Range}
use Rattle.word_arithmetic.specs.Range.{Ends, ends_of}
use Rattle.scalar_ranges.specs.declared.bounds.Bound as code_bound
use Rattle.scalar_ranges.specs.declared.bounds.Bound.TheVariants as bounds
use Rattle.scalar_ranges.specs.Bounds.{Bound, Exactly, Within}

abbrev pub known : code_bound.Bound → Bound
known (bounds.Exactly value) = Exactly value
known (bounds.Within range) = Within (ends_of range)

abbrev pub all_known : Result code_bound.Bound ℕ → Result Bound ℕ
all_known (Ok b) = Ok (known b)
all_known (Err e) = Err e

abbrev pub all_ends : Result Range ℕ → Result Ends ℕ
all_ends (Ok r) = Ok (ends_of r)
all_ends (Err e) = Err e
