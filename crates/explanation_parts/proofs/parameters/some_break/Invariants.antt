use Rattle.std.proofs.Common.{◌≡◌, length}
use Rattle.std.specs.List.{list_any}
use Rattle.states.specs.Views.{state_of}
use Rattle.explanation_parts.specs.Parameters.{is_broken}
use Rattle.explanation_parts.proofs.parameters.some_break.Given as goal

abbrev pub invariant-loop-parameter : goal.invariant-loop-parameter
invariant-loop-parameter l =
    list_any (is_broken l.rule (state_of l.state)) l.rest
    ≡ list_any (is_broken l.rule (state_of l.state)) l.parameters

abbrev pub decreases-loop-parameter : goal.decreases-loop-parameter
decreases-loop-parameter l = length l.rest
