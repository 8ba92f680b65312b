use Rattle.std.proofs.Common.{◌≡◌, vec_len}
use Rattle.scalar_ranges.specs.Naming.{names_from}
use Rattle.scalar_ranges.specs.Moves.{outermost}
use Rattle.scalar_ranges.proofs.names.Names.truncate.Given as goal

abbrev pub invariant-loop-self : goal.invariant-loop-self
invariant-loop-self l =
    outermost l.count (names_from l.self.rows.items) ≡ outermost l.count (names_from l.fn.self.rows.items)

abbrev pub decreases-loop-self : goal.decreases-loop-self
decreases-loop-self l = vec_len l.self.rows
