use Rattle.std.proofs.Common.{take}
use Rattle.occam_parser.specs.BlockViews.{all_processes, all_choices, all_branches}
use Rattle.scalar_ranges.specs.Scopes.{entries_of, known_of}
use Rattle.program_uses.specs.Changes.{changed_by_components}
use Rattle.program_uses.specs.Finding.{Finds}
use Rattle.program_uses.specs.Listing.{ListsComponents}
use Rattle.program_uses.specs.Signatures.{signatures_of}
use Rattle.program_uses.proofs.finding.Finding.+find.Given as goal

abbrev pub invariant-find_in_construct-loop-process : goal.invariant-find_in_construct-loop-process
invariant-find_in_construct-loop-process l =
    Finds l.initial.self l.self (known_of l.initial.scope) (known_of l.scope)
    (changed_by_components (signatures_of l.signatures) (entries_of l.initial.scope)
    (all_processes (take l.process-index l.process-items)))
    (λ t. ListsComponents t (signatures_of l.signatures) (entries_of l.initial.scope)
    (all_processes (take l.process-index l.process-items)))

abbrev pub invariant-find_in_construct-loop-choice : goal.invariant-find_in_construct-loop-choice
invariant-find_in_construct-loop-choice l =
    Finds l.initial.self l.self (known_of l.initial.scope) (known_of l.scope)
    (changed_by_components (signatures_of l.signatures) (entries_of l.initial.scope)
    (all_choices (take l.choice-index l.choice-items)))
    (λ t. ListsComponents t (signatures_of l.signatures) (entries_of l.initial.scope)
    (all_choices (take l.choice-index l.choice-items)))

abbrev pub invariant-find_in_construct-loop-branch : goal.invariant-find_in_construct-loop-branch
invariant-find_in_construct-loop-branch l =
    Finds l.initial.self l.self (known_of l.initial.scope) (known_of l.scope)
    (changed_by_components (signatures_of l.signatures) (entries_of l.initial.scope)
    (all_branches (take l.branch-index l.branch-items)))
    (λ t. ListsComponents t (signatures_of l.signatures) (entries_of l.initial.scope)
    (all_branches (take l.branch-index l.branch-items)))
