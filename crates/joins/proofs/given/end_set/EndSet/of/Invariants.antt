use Rattle.std.proofs.Common.{◌≡◌, take}
use Rattle.machine_state.specs.declared.holding.End.{End}
use Rattle.machine_state.specs.Spans.{is_among_ends}
use Rattle.joins.specs.EndSets.{has}
use Rattle.joins.proofs.given.end_set.EndSet.of.Given as goal

-- those so far are there
abbrev pub invariant-loop-end : goal.invariant-loop-end
invariant-loop-end l = (end : End) → has l.set end ≡ is_among_ends (take l.end-index l.ends) end
