use Rattle.std.proofs.Common.{◌≡◌, ◌++◌, drop}
use Rattle.code_generator.specs.Waiting.{targets_of}
use Rattle.code_generator.proofs.guards.targets_of.Given as goal

abbrev pub invariant-loop-one : goal.invariant-loop-one
invariant-loop-one l =
    l.targets.items ++ targets_of l.labels (drop l.one-index l.awaited) ≡ targets_of l.labels l.awaited
