use Rattle.std.proofs.Common.{◌≡◌, take}
use Rattle.scalar_ranges.specs.Moves.{widen}
use Rattle.scalar_ranges.specs.Scopes.{entries_of, blocks_of}
use Rattle.scalar_ranges.proofs.scope.Scope.widen.Given as goal

abbrev pub invariant-loop-number : goal.invariant-loop-number
invariant-loop-number l = record {
  entries : entries_of l.self ≡ widen (take l.number-index l.numbers) (entries_of l.fn.self);
  blocks : blocks_of l.self ≡ blocks_of l.fn.self;
}
