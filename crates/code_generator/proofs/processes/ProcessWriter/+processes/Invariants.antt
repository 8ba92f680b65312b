use Rattle.std.proofs.Common.{◌*◌, ◌+◌, take}
use Rattle.occam_parser.specs.BlockViews.{choice_of, branch_of, plain_component, all_processes, all_choices}
use Rattle.occam_parser.specs.BlockViews.{all_branches}
use Rattle.program_uses.specs.Indices.{seen_repeats}
use Rattle.code_generator.specs.Alternations.{exits_in, WritesBranches}
use Rattle.code_generator.specs.Alternations as alternations
use Rattle.code_generator.specs.Written.{WritesSeq, WritesTested, WritesSomeTurns}
use Rattle.code_generator.specs.Branches as Branches
use Rattle.code_generator.proofs.processes.ProcessWriter.+processes.Given as goal

-- Each process has one less that may be in it, and what is called between two processes goes down by its rank.

abbrev pub decreases-act : goal.decreases-act
decreases-act l = 16 * l.around.now.deeper + 8

abbrev pub decreases-write_alt : goal.decreases-write_alt
decreases-write_alt l = 16 * l.around.now.deeper + 13

abbrev pub decreases-write_branch : goal.decreases-write_branch
decreases-write_branch l = 16 * l.around.now.deeper + 11

abbrev pub decreases-write_branch_turns : goal.decreases-write_branch_turns
decreases-write_branch_turns l = 16 * l.around.now.deeper + 12

abbrev pub decreases-write_branches : goal.decreases-write_branches
decreases-write_branches l = 16 * l.around.now.deeper + 12

abbrev pub decreases-write_repeated_alt : goal.decreases-write_repeated_alt
decreases-write_repeated_alt l = 16 * l.around.now.deeper + 13

abbrev pub decreases-write : goal.decreases-write
decreases-write l = 16 * l.around.now.deeper + 1

abbrev pub decreases-write_tested : goal.decreases-write_tested
decreases-write_tested l = 16 * l.around.now.deeper + 10

abbrev pub decreases-write_choices : goal.decreases-write_choices
decreases-write_choices l = 16 * l.around.now.deeper + 12

abbrev pub decreases-write_taken : goal.decreases-write_taken
decreases-write_taken l = 16 * l.around.now.deeper + 9

abbrev pub decreases-write_construct : goal.decreases-write_construct
decreases-write_construct l = 16 * l.around.now.deeper + 15

abbrev pub decreases-write_component : goal.decreases-write_component
decreases-write_component l = 16 * l.around.now.deeper + 2

abbrev pub decreases-write_components : goal.decreases-write_components
decreases-write_components l = 16 * l.around.now.deeper + 12

abbrev pub decreases-write_if : goal.decreases-write_if
decreases-write_if l = 16 * l.around.now.deeper + 13

abbrev pub decreases-write_instance : goal.decreases-write_instance
decreases-write_instance l = 16 * l.around.now.deeper + 6

abbrev pub decreases-write_line : goal.decreases-write_line
decreases-write_line l = 16 * l.around.now.deeper + 7

abbrev pub decreases-write_loop : goal.decreases-write_loop
decreases-write_loop l = 16 * l.around.now.deeper + 4

abbrev pub decreases-write_one : goal.decreases-write_one
decreases-write_one l = 16 * l.around.now.deeper + 2

abbrev pub decreases-write_open : goal.decreases-write_open
decreases-write_open l = 16 * l.around.now.deeper + 10

abbrev pub decreases-write_ending : goal.decreases-write_ending
decreases-write_ending l = 16 * l.around.now.deeper + 11

abbrev pub decreases-write_par : goal.decreases-write_par
decreases-write_par l = 16 * l.around.now.deeper + 3

abbrev pub decreases-write_repeated_if : goal.decreases-write_repeated_if
decreases-write_repeated_if l = 16 * l.around.now.deeper + 13

abbrev pub decreases-write_repeated_par : goal.decreases-write_repeated_par
decreases-write_repeated_par l = 16 * l.around.now.deeper + 13

abbrev pub decreases-write_replicated : goal.decreases-write_replicated
decreases-write_replicated l = 16 * l.around.now.deeper + 14

abbrev pub decreases-write_seq : goal.decreases-write_seq
decreases-write_seq l = 16 * l.around.now.deeper + 3

abbrev pub decreases-write_turning : goal.decreases-write_turning
decreases-write_turning l = 16 * l.around.now.deeper + 3

abbrev pub decreases-write_turns : goal.decreases-write_turns
decreases-write_turns l = 16 * l.around.now.deeper + 12

abbrev pub invariant-write_seq-loop-process : goal.invariant-write_seq-loop-process
invariant-write_seq-loop-process l =
    WritesSeq l.initial.self l.self l.around (all_processes (take l.process-index l.processes))

abbrev pub invariant-write_choices-loop-choice : goal.invariant-write_choices-loop-choice
invariant-write_choices-loop-choice l =
    WritesTested l.initial.self l.self l.around l.end (all_choices (take l.choice-index l.ended.tested.now))

abbrev pub invariant-write_par-loop-process : goal.invariant-write_par-loop-process
invariant-write_par-loop-process l =
    Branches.WritesSome l.initial.self l.self l.around (all_processes (take l.process-index l.processes))

abbrev pub invariant-write_components-loop-turn : goal.invariant-write_components-loop-turn
invariant-write_components-loop-turn l =
    Branches.WritesTurns l.initial.self l.self l.around l.name (seen_repeats l.repeats) l.turn
    (plain_component l.process)

abbrev pub invariant-write_turns-loop-turn : goal.invariant-write_turns-loop-turn
invariant-write_turns-loop-turn l =
    WritesSomeTurns l.initial.self l.self l.around l.end l.name (seen_repeats l.repeats) (choice_of l.choice) l.turn

abbrev pub invariant-write_branches-loop-number : goal.invariant-write_branches-loop-number
invariant-write_branches-loop-number l =
    WritesBranches l.initial.self l.self l.around (exits_in l.labels l.guards.sources.items)
    (all_branches (take l.number l.branches))

abbrev pub invariant-write_branch_turns-loop-turn : goal.invariant-write_branch_turns-loop-turn
invariant-write_branch_turns-loop-turn l =
    alternations.WritesSome l.initial.self l.self l.around (exits_in l.labels l.guards.sources.items) l.turns
    (branch_of l.branch) l.turn
