use Rattle.std.proofs.Common.{◌≡◌, ◌+◌, ◌++◌, length, string_bytes}
use Rattle.states.specs.Views.{state_of}
use Rattle.explanation_parts.specs.Parameters.{parameters_from}
use Rattle.explanation_parts.proofs.parameters.push_parameters.Given as goal

abbrev pub invariant-loop-parameter : goal.invariant-loop-parameter
invariant-loop-parameter l =
    (l.number + length l.rest ≡ length l.parameters)
    × (string_bytes l.text ++ parameters_from l.rule l.breaking (state_of l.state) l.number l.rest
    ≡ string_bytes l.initial.text ++ parameters_from l.rule l.breaking (state_of l.state) 0 l.parameters)

abbrev pub decreases-loop-parameter : goal.decreases-loop-parameter
decreases-loop-parameter l = length l.rest
