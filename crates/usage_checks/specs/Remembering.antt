-- How a set remembers what was handed.
use Rattle.std.specs.Prelude.{Bool, false, ◌||◌, List, [], ◌∷◌, ◌++◌}
use Rattle.program_uses.specs.declared.uses.Direction.TheVariants as direction
use Rattle.program_uses.specs.declared.uses.Use.{Use}
use Rattle.program_uses.specs.declared.uses.Use.TheVariants as used
use Rattle.usage_checks.specs.declared.handing.Handed.{Handed}
use Rattle.usage_checks.specs.declared.handing.Handed.TheVariants as handed

-- Of an element the set has, besides, that the array was handed in part.
abbrev pub remembered : Handed → List Use
remembered handed.Nothing = []
remembered (handed.Whole n) = used.Change n ∷ []
remembered (handed.Values n) = used.Read n ∷ []
remembered (handed.Element s) = used.Read s.channel ∷ used.Channel s.channel s.element direction.Input ∷ []

abbrev pub all_remembered : List Handed → List Use
all_remembered [] = []
all_remembered (h ∷ hs) = remembered h ++ all_remembered hs

abbrev pub is_again : (Use → Bool) → Handed → Bool
is_again before handed.Nothing = false
is_again before (handed.Whole n) = before (used.Read n) || before (used.Change n)
is_again before (handed.Values n) = before (used.Change n)
is_again before (handed.Element s) =
    before (used.Change s.channel) || before (used.Channel s.channel s.element direction.Input)
