use Rattle.std.proofs.Common.{◌≡◌, ◌++◌, drop}
use Rattle.machine_state.proofs.Gaps.{gaps_from}
use Rattle.machine_state.proofs.spans.gaps_in_order.Given as goal

-- the gaps so far and those of the rest are all
abbrev pub invariant-loop-span : goal.invariant-loop-span
invariant-loop-span l =
    l.gaps.items ++ gaps_from l.end l.from (drop l.span-index l.spans) ≡ gaps_from l.end 0 l.spans
