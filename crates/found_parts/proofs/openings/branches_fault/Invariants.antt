use Rattle.std.proofs.Common.{◌≡◌, map, drop}
use Rattle.module_format.specs.Contents.{branch_of}
use Rattle.states.specs.Views.{state_of}
use Rattle.found_parts.specs.Openings.{named_fault}
use Rattle.found_parts.specs.Firsts.{first_of}
use Rattle.found_parts.proofs.openings.branches_fault.Given as goal

abbrev pub invariant-loop-branch : goal.invariant-loop-branch
invariant-loop-branch l =
    first_of (named_fault l.«module» (state_of l.state)) (map branch_of l.branches)
    ≡ first_of (named_fault l.«module» (state_of l.state)) (map branch_of (drop l.branch-index l.branches))
