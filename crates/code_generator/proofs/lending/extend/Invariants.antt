use Rattle.std.proofs.Common.{◌≡◌, []}
use Rattle.scalar_ranges.specs.Moves.{outermost}
use Rattle.scalar_ranges.specs.Scopes.{entries_of, blocks_of}
use Rattle.code_generator.proofs.lending.extend.Given as goal

abbrev pub invariant-loop-number : goal.invariant-loop-number
invariant-loop-number l = record {
  entries : entries_of l.names ≡ outermost l.number (entries_of l.scope);
  blocks : blocks_of l.names ≡ [];
}
