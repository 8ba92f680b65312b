use Rattle.std.proofs.Common.{◌≡◌, drop}
use Rattle.states.specs.Views.{state_of}
use Rattle.found_parts.specs.Openings.{end_fault}
use Rattle.found_parts.specs.Firsts.{first_of}
use Rattle.found_parts.proofs.openings.ends_fault.Given as goal

abbrev pub invariant-loop-end : goal.invariant-loop-end
invariant-loop-end l =
    first_of (λ e. end_fault l.«module» (state_of l.state) e.kind) l.ends
    ≡ first_of (λ e. end_fault l.«module» (state_of l.state) e.kind) (drop l.end-index l.ends)
