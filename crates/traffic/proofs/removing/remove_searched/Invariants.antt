use Rattle.std.proofs.Common.{ℕ, ◌<◌}
use Rattle.traffic.specs.Removing.{Removes, IsGone}
use Rattle.traffic.proofs.removing.remove_searched.Given as goal

-- the words so far have none of the channels
abbrev pub invariant-loop-cell : goal.invariant-loop-cell
invariant-loop-cell l = record {
  removes : Removes l.opener l.initial.channels.items l.channels.items l.initial.counts.items l.counts.items;
  gone : (k : ℕ) → k < l.cell → IsGone l.opener l.channels.items k;
}
