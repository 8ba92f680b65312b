use Rattle.std.proofs.Common.{take}
use Rattle.occam_parser.specs.LineViews.{replicator_of}
use Rattle.occam_parser.specs.BlockViews.{body_of, all_processes, all_choices, all_branches}
use Rattle.scalar_ranges.specs.Scopes.{entries_of, known_of}
use Rattle.program_uses.specs.ActionViews.{around_of}
use Rattle.program_uses.specs.Indices.{in_turns}
use Rattle.program_uses.specs.Processes.{Collects, uses_of_components, uses_in_turn}
use Rattle.program_uses.specs.Sharing.{SharesInComponents}
use Rattle.program_uses.proofs.ComponentsShared.{ComponentsApart, TurnsApart}
use Rattle.program_uses.proofs.UsesOfProcesses.{uses_in_turns, SharesInSome}
use Rattle.program_uses.proofs.uses.Uses.+collect.Given as goal

abbrev pub invariant-collect_construct-loop-choice : goal.invariant-collect_construct-loop-choice
invariant-collect_construct-loop-choice l =
    let cs = all_choices (take l.choice-index l.choice-items) in
    Collects l.initial.self l.self l.initial.told l.told (known_of l.initial.scope) (known_of l.scope)
    (uses_of_components (around_of l.around) (entries_of l.initial.scope) cs)
    (SharesInComponents (around_of l.around) (entries_of l.initial.scope) cs)

abbrev pub invariant-collect_construct-loop-process : goal.invariant-collect_construct-loop-process
invariant-collect_construct-loop-process l =
    let cs = all_processes (take l.process-index l.process-items) in
    Collects l.initial.self l.self l.initial.told l.told (known_of l.initial.scope) (known_of l.scope)
    (uses_of_components (around_of l.around) (entries_of l.initial.scope) cs)
    (SharesInComponents (around_of l.around) (entries_of l.initial.scope) cs)

abbrev pub invariant-collect_construct-loop-branch : goal.invariant-collect_construct-loop-branch
invariant-collect_construct-loop-branch l =
    let cs = all_branches (take l.branch-index l.branch-items) in
    Collects l.initial.self l.self l.initial.told l.told (known_of l.initial.scope) (known_of l.scope)
    (uses_of_components (around_of l.around) (entries_of l.initial.scope) cs)
    (SharesInComponents (around_of l.around) (entries_of l.initial.scope) cs)

abbrev pub invariant-collect_par-loop-process : goal.invariant-collect_par-loop-process
invariant-collect_par-loop-process l =
    let cs = all_processes (take l.process-index l.processes) in
    Collects l.initial.before l.before l.initial.told l.told (known_of l.initial.scope) (known_of l.scope)
    (uses_of_components (around_of l.around) (entries_of l.initial.scope) cs)
    (ComponentsApart (around_of l.around) (entries_of l.initial.scope) l.line cs)

abbrev pub invariant-collect_turns-loop-turn : goal.invariant-collect_turns-loop-turn
invariant-collect_turns-loop-turn l =
    let r = replicator_of l.replicator in
    Collects l.initial.self l.self l.initial.told l.told (known_of l.initial.scope) (known_of l.scope)
    (uses_in_turns (around_of l.around) (entries_of l.initial.scope) r (body_of l.body) l.sequential l.turns.first
    l.turn)
    (SharesInSome (around_of l.around) (entries_of l.initial.scope) r (body_of l.body) l.sequential l.turns.first
    l.turn)

abbrev pub invariant-collect_apart-loop-turn : goal.invariant-collect_apart-loop-turn
invariant-collect_apart-loop-turn l =
    let r = replicator_of l.replicator in
    Collects l.initial.before l.before l.initial.told l.told (known_of l.initial.scope) (known_of l.scope)
    (in_turns (uses_in_turn (around_of l.around) (entries_of l.initial.scope) l.turns.first r.name (body_of l.body))
    l.turn)
    (TurnsApart (around_of l.around) (entries_of l.initial.scope) l.line r (body_of l.body) l.turns.first l.turn)
