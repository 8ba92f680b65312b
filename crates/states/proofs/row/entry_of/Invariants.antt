use Rattle.std.proofs.Common.{◌≡◌, length}
use Rattle.states.specs.Rows.{AreApart}
use Rattle.states.specs.State.{entry_fact}
use Rattle.states.proofs.row.entry_of.Given as goal

abbrev pub invariant-loop-rest : goal.invariant-loop-rest
invariant-loop-rest l = AreApart l.rest × (entry_fact l.rest l.word ≡ entry_fact l.row l.word)

abbrev pub decreases-loop-rest : goal.decreases-loop-rest
decreases-loop-rest l = length l.rest
