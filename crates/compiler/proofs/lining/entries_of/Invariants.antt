use Rattle.std.specs.List.{All}
use Rattle.compiler.specs.CodeLines.{IsOnLine}
use Rattle.compiler.proofs.lining.entries_of.Given as goal

abbrev pub invariant-loop-number : goal.invariant-loop-number
invariant-loop-number l = All (IsOnLine l.ends) l.entries.items
