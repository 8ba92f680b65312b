use Rattle.std.proofs.Common.{◌≡◌}
use Rattle.link_runs.specs.Deadlocks.{any_below, awaits, is_for_others}
use Rattle.waiting_texts.proofs.deadlocks.somebody_waits.Given as goal

abbrev pub invariant-loop-process : goal.invariant-loop-process
invariant-loop-process l =
    l.waits ≡ any_below (λ p. is_for_others (awaits l.checked.world p)) l.process
