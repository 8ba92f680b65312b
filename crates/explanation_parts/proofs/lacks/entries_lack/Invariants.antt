use Rattle.std.proofs.Common.{◌≡◌, take}
use Rattle.states.specs.Views.{state_of}
use Rattle.explanation_parts.specs.Ways.{seen_in}
use Rattle.explanation_parts.specs.Lacks.{entries_lack}
use Rattle.explanation_parts.proofs.lacks.entries_lack.Given as goal

abbrev pub invariant-loop-entry : goal.invariant-loop-entry
invariant-loop-entry l =
    l.lack ≡ entries_lack (seen_in l.way (state_of l.state)) (take l.entry-index l.entries)
