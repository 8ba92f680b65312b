use Rattle.std.proofs.Common.{◌≡◌, drop}
use Rattle.code_generator.specs.Waiting.{next_in}
use Rattle.code_generator.proofs.guards.next_in.Given as goal

abbrev pub invariant-loop-number : goal.invariant-loop-number
invariant-loop-number l =
    next_in l.source l.number (drop l.number l.sources) ≡ next_in l.source l.from (drop l.from l.sources)
