use Rattle.std.proofs.Common.{◌≡◌, drop}
use Rattle.scalar_ranges.specs.Lefts.{set_all}
use Rattle.scalar_ranges.proofs.deferred.set_all.Given as goal

abbrev pub invariant-loop-change : goal.invariant-loop-change
invariant-loop-change l =
    set_all l.mark (drop l.change-index l.changes) l.lefts ≡ set_all l.mark l.changes l.fn.lefts
