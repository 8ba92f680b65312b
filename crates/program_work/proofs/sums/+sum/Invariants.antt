use Rattle.std.proofs.Common.{◌≡◌, take}
use Rattle.occam_parser.specs.BlockViews.{all_processes, all_choices, all_branches}
use Rattle.program_work.specs.Sums.{sums_of_components}
use Rattle.program_work.proofs.sums.+sum.Given as goal

abbrev pub invariant-sums_of_processes-loop-process : goal.invariant-sums_of_processes-loop-process
invariant-sums_of_processes-loop-process l =
    l.sums ≡ sums_of_components (all_processes (take l.process-index l.processes))

abbrev pub invariant-sums_of_choices-loop-choice : goal.invariant-sums_of_choices-loop-choice
invariant-sums_of_choices-loop-choice l = l.sums ≡ sums_of_components (all_choices (take l.choice-index l.choices))

abbrev pub invariant-sums_of_branches-loop-branch : goal.invariant-sums_of_branches-loop-branch
invariant-sums_of_branches-loop-branch l =
    l.sums ≡ sums_of_components (all_branches (take l.branch-index l.branches))
