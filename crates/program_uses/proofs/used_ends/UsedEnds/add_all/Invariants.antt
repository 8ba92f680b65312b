use Rattle.std.proofs.Common.{◌≡◌, ◌||◌, length, map}
use Rattle.program_uses.specs.declared.uses.Use.{Use}
use Rattle.program_uses.specs.Sets.{is_among, use_of, uses_at}
use Rattle.program_uses.proofs.used_ends.UsedEnds.add_all.Given as goal

abbrev pub decreases-loop-end : goal.decreases-loop-end
decreases-loop-end l = length l.rest

abbrev pub invariant-loop-end : goal.invariant-loop-end
invariant-loop-end l =
    (u : Use) → (is_among (uses_at l.self) u || is_among (map use_of l.rest) u)
    ≡ (is_among (uses_at l.fn.self) u || is_among (uses_at l.other) u)
