use Rattle.std.proofs.Common.{◌≡◌, ◌++◌, drop, not}
use Rattle.std.specs.Prelude.{filter}
use Rattle.machine_state.specs.declared.holding.End.{End}
use Rattle.machine_state.specs.Spans.{is_among_ends}
use Rattle.joins.proofs.given.ends_without.Given as goal

-- those so far and those of the rest are all
abbrev pub invariant-loop-end : goal.invariant-loop-end
invariant-loop-end l =
    l.left.items ++ filter (λ (e : End). not (is_among_ends l.taken e)) (drop l.end-index l.ends)
    ≡ filter (λ (e : End). not (is_among_ends l.taken e)) l.ends
