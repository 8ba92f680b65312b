use Rattle.std.proofs.Common.{◌≡◌, drop}
use Rattle.states.specs.Views.{state_of}
use Rattle.found_parts.specs.Openings.{listed_fault}
use Rattle.found_parts.specs.Firsts.{first_of}
use Rattle.found_parts.proofs.openings.listed_fault.Given as goal

abbrev pub invariant-loop-number : goal.invariant-loop-number
invariant-loop-number l =
    first_of (listed_fault l.«module» (state_of l.state)) l.parameters
    ≡ first_of (listed_fault l.«module» (state_of l.state)) (drop l.number-index l.parameters)
