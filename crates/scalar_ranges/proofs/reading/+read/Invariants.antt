use Rattle.std.proofs.Common.{◌≡◌, take}
use Rattle.scalar_ranges.specs.BoundViews.{all_known}
use Rattle.scalar_ranges.specs.Scopes.{entries_of}
use Rattle.scalar_ranges.specs.Types.{types_in}
use Rattle.scalar_ranges.specs.Bounds.{bounds_in}
use Rattle.scalar_ranges.proofs.Chains.{chain_after}
use Rattle.scalar_ranges.proofs.reading.+read.Given as goal

-- what is read of the chain as far as the loop has come
abbrev pub invariant-read-loop-other : goal.invariant-read-loop-other
invariant-read-loop-other l = record {
  types : l.found.expr_type
      ≡ chain_after (types_in (entries_of l.scope)) l.operator l.initial.found.expr_type
      (take l.other-index l.other-items);
  bounds : all_known l.found.bound
      ≡ chain_after (bounds_in (entries_of l.scope)) l.operator (all_known l.initial.found.bound)
      (take l.other-index l.other-items);
}
