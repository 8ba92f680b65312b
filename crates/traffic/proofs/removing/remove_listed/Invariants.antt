use Rattle.std.proofs.Common.{length}
use Rattle.traffic.specs.Removing.{Removes, AreIn}
use Rattle.traffic.proofs.removing.remove_listed.Given as goal

-- the channels that are left are in the words that are left
abbrev pub invariant-loop-cell : goal.invariant-loop-cell
invariant-loop-cell l = record {
  removes : Removes l.opener l.initial.channels.items l.channels.items l.initial.counts.items l.counts.items;
  left : AreIn l.initial.cells.items l.opener l.initial.channels.items → AreIn l.cells.items l.opener l.channels.items;
}

-- each turn takes a word away
abbrev pub decreases-loop-cell : goal.decreases-loop-cell
decreases-loop-cell l = length l.cells.items
