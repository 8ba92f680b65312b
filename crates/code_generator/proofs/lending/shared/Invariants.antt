use Rattle.std.proofs.Common.{◌≡◌}
use Rattle.scalar_ranges.specs.Moves.{outermost}
use Rattle.scalar_ranges.specs.Scopes.{entries_of}
use Rattle.code_generator.proofs.lending.shared.Given as goal

abbrev pub invariant-loop-number : goal.invariant-loop-number
invariant-loop-number l = outermost l.number (entries_of l.first) ≡ outermost l.number (entries_of l.second)
