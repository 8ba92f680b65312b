use Rattle.std.proofs.Common.{◌≡◌, take}
use Rattle.occam_parser.specs.LineViews.{replicator_of}
use Rattle.occam_parser.specs.BlockViews.{body_of, all_processes, all_choices, all_branches}
use Rattle.scalar_ranges.specs.Scopes.{entries_of, known_of}
use Rattle.program_uses.specs.Indices.{in_turns}
use Rattle.program_uses.specs.Signatures.{signatures_of}
use Rattle.usage_checks.specs.Sizes.{total, measures_of_components}
use Rattle.usage_checks.specs.Weighing.{Sums, WeighsIn}
use Rattle.usage_checks.proofs.TurnsWeighed.{turn_measures}
use Rattle.usage_checks.proofs.weighing.Weight.+weigh.Given as goal

abbrev pub invariant-weigh_processes-loop-process : goal.invariant-weigh_processes-loop-process
invariant-weigh_processes-loop-process l =
    WeighsIn l.initial.self l.self (known_of l.initial.scope) (known_of l.scope)
    (measures_of_components (signatures_of l.signatures) (entries_of l.initial.scope)
    (all_processes (take l.process-index l.processes)))

abbrev pub invariant-weigh_choices-loop-choice : goal.invariant-weigh_choices-loop-choice
invariant-weigh_choices-loop-choice l =
    WeighsIn l.initial.self l.self (known_of l.initial.scope) (known_of l.scope)
    (measures_of_components (signatures_of l.signatures) (entries_of l.initial.scope)
    (all_choices (take l.choice-index l.choices)))

abbrev pub invariant-weigh_branches-loop-branch : goal.invariant-weigh_branches-loop-branch
invariant-weigh_branches-loop-branch l =
    WeighsIn l.initial.self l.self (known_of l.initial.scope) (known_of l.scope)
    (measures_of_components (signatures_of l.signatures) (entries_of l.initial.scope)
    (all_branches (take l.branch-index l.branches)))

abbrev pub invariant-weigh_turns-loop-turn : goal.invariant-weigh_turns-loop-turn
invariant-weigh_turns-loop-turn l =
    let turns = turn_measures (signatures_of l.signatures) (entries_of l.initial.scope) (replicator_of l.replicator)
    (body_of l.body) l.sequential l.turns.first in
    record {
      weight : Sums l.initial.self l.self (total (in_turns turns l.turn));
      scope : known_of l.scope ≡ known_of l.initial.scope;
    }
