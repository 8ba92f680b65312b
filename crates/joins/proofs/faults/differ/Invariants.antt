use Rattle.std.proofs.Common.{◌≡◌, true, take}
use Rattle.machine_state.specs.declared.holding.End.{End}
use Rattle.machine_state.specs.Spans.{differ, is_among_ends}
use Rattle.joins.specs.EndSets.{has}
use Rattle.joins.proofs.faults.differ.Given as goal

-- those so far are there, and differ
abbrev pub invariant-loop-end : goal.invariant-loop-end
invariant-loop-end l = record {
  there : (end : End) → has l.seen end ≡ is_among_ends (take l.end-index l.ends) end;
  apart : differ (take l.end-index l.ends) ≡ true;
}
