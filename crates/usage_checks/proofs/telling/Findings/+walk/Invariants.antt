use Rattle.std.proofs.Common.{take}
use Rattle.occam_layout.specs.declared.mark.Mark.TheVariants as mark
use Rattle.occam_parser.specs.Terminals.{Mark}
use Rattle.occam_parser.specs.LineViews.{replicator_of}
use Rattle.occam_parser.specs.BlockViews.{body_of, all_processes, all_choices, all_branches}
use Rattle.scalar_ranges.specs.Scopes.{known_of}
use Rattle.program_uses.specs.Indices.{seen_repeats}
use Rattle.usage_checks.specs.Walking.{WalksComponents}
use Rattle.usage_checks.proofs.TurnsWalked.{WalksTurns}
use Rattle.usage_checks.proofs.telling.Findings.+walk.Given as goal

abbrev pub invariant-walk_seq-loop-process : goal.invariant-walk_seq-loop-process
invariant-walk_seq-loop-process l =
    WalksComponents l.initial.self l.self l.site (Mark mark.Seq) (all_processes (take l.process-index l.processes))
    (known_of l.initial.scope) (known_of l.scope)

abbrev pub invariant-walk_par-loop-process : goal.invariant-walk_par-loop-process
invariant-walk_par-loop-process l =
    WalksComponents l.initial.self l.self l.inner (Mark mark.Par) (all_processes (take l.process-index l.processes))
    (known_of l.initial.scope) (known_of l.scope)

abbrev pub invariant-walk_if-loop-choice : goal.invariant-walk_if-loop-choice
invariant-walk_if-loop-choice l =
    WalksComponents l.initial.self l.self l.site (Mark mark.If) (all_choices (take l.choice-index l.choices))
    (known_of l.initial.scope) (known_of l.scope)

abbrev pub invariant-walk_alt-loop-branch : goal.invariant-walk_alt-loop-branch
invariant-walk_alt-loop-branch l =
    WalksComponents l.initial.self l.self l.site (Mark mark.Alt) (all_branches (take l.branch-index l.branches))
    (known_of l.initial.scope) (known_of l.scope)

abbrev pub invariant-walk_body-loop-turn : goal.invariant-walk_body-loop-turn
invariant-walk_body-loop-turn l =
    WalksTurns l.initial.self l.self l.inner (replicator_of l.replicator) (body_of l.body) (seen_repeats l.repeats)
    l.turn (known_of l.initial.scope) (known_of l.scope)
