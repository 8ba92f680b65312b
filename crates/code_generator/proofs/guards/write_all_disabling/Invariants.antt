use Rattle.std.proofs.Common.{◌≡◌, ◌++◌, drop}
use Rattle.code_generator.specs.Waiting.{all_disabling}
use Rattle.code_generator.proofs.guards.write_all_disabling.Given as goal

abbrev pub invariant-loop-one : goal.invariant-loop-one
invariant-loop-one l =
    l.listing ++ all_disabling l.labels (drop l.one-index l.awaited)
    ≡ l.initial.listing ++ all_disabling l.labels l.awaited
