use Rattle.std.proofs.Common.{drop}
use Rattle.scalar_ranges.specs.Changes.{AreForeign}
use Rattle.scalar_ranges.specs.ChangeViews.{changes_from}
use Rattle.scalar_ranges.proofs.changes.are_foreign.Given as goal

abbrev pub invariant-loop-change : goal.invariant-loop-change
invariant-loop-change l =
    AreForeign l.count l.depth (drop l.change-index (changes_from l.changes))
    → AreForeign l.count l.depth (changes_from l.changes)
