use Rattle.std.proofs.Common.{◌≡◌}
use Rattle.file_faults.specs.Walks.{turned}
use Rattle.file_faults.proofs.walks.turned.Given as goal

abbrev pub invariant-loop-turn : goal.invariant-loop-turn
invariant-loop-turn l = l.walk ≡ turned l._turn l.fn.walk
