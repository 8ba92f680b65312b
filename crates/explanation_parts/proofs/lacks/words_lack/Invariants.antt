use Rattle.std.proofs.Common.{◌≡◌}
use Rattle.states.specs.Views.{state_of}
use Rattle.explanation_parts.specs.Ways.{seen_in}
use Rattle.explanation_parts.specs.Lacks.{words_lack}
use Rattle.explanation_parts.proofs.lacks.words_lack.Given as goal

abbrev pub invariant-loop-number : goal.invariant-loop-number
invariant-loop-number l = l.lack ≡ words_lack (seen_in l.way (state_of l.state)) l.entry l.number
