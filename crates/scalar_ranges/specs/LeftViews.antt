-- What is known by what the program tracks and puts off.
use Rattle.std.specs.Prelude.{ℕ, Option}
use Rattle.scalar_ranges.specs.declared.deferred.Deferred as code_deferred
use Rattle.scalar_ranges.specs.Entries.{Meaning}
use Rattle.scalar_ranges.specs.Moves.{Known}
use Rattle.scalar_ranges.specs.Lefts.{left_at, known_left}
use Rattle.scalar_ranges.specs.TrackedViews.{known_by}

abbrev pub left_by : code_deferred.Deferred → ℕ → Option Meaning
left_by d = left_at d.mark d.lefts.items

abbrev pub known_now : code_deferred.Deferred → Known
known_now d = known_left d.stage (left_by d) (known_by d.tracked)
