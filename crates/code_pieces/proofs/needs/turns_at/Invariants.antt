use Rattle.std.proofs.Common.{◌≡◌, drop}
use Rattle.code_pieces.specs.Numbers.{turns_at}
use Rattle.code_pieces.proofs.needs.turns_at.Given as goal

abbrev pub invariant-loop-entry : goal.invariant-loop-entry
invariant-loop-entry l = turns_at l.label (drop l.entry-index l.entries) ≡ turns_at l.label l.entries
