-- Where the pieces of one process pass, the module that says them is certified.
use Rattle.std.specs.Prelude.{◌≤◌, ⊤, ℕ, List, [], length, Some, None}
use Rattle.std.specs.List.{AllByRecursion}
use Rattle.module_format.specs.Stack.{of_empty}
use Rattle.states.specs.State.{unknown, no_facts}
use Rattle.certified_worlds.specs.Certified.{IsCertified}
use Rattle.code_pieces.specs.Pieces.{Piece, TableAddress}
use Rattle.code_pieces.specs.Laying.{apart}
use Rattle.code_pieces.specs.LaidModule.{Arrangement, Says, laid_module}
use Rattle.placed_code.specs.LaidCode.{LabelsArePlacedOnce, StaysAt}
use Rattle.certified_lines.specs.StraightRules.{Told}
use Rattle.certified_modules.specs.RootRows.{root_passage}
use Rattle.certified_modules.specs.Passing.{PassOn}

-- where the module begins, nothing is known
abbrev pub nothing_told : Told
nothing_told = record { stack = of_empty unknown; frame = no_facts }

-- From the beginning of the root pieces pass to where nothing goes on.
abbrev pub AllPass : List Piece → ℕ → List ℕ → Arrangement → Type 0
AllPass ps labels links a = PassOn (root_passage ps labels links a) [] (Some nothing_told) ps None

-- a table has a value
abbrev pub HasValues : Piece → Type 0
HasValues (TableAddress values) = 1 ≤ length values
HasValues p = ⊤

-- So the module that says them is certified, where each label is placed once, operands are words, and no table is
-- empty.
abbrev pub PassedModulesAreCertified : Type 0
PassedModulesAreCertified = (ps : List Piece) (labels : ℕ) (links bytes : List ℕ) (says : Says ps labels links bytes)
    → LabelsArePlacedOnce ps labels → AllByRecursion (StaysAt 0) ps → AllByRecursion HasValues ps
    → AllPass ps labels links says.arrangement
    → IsCertified (laid_module ps labels links says.arrangement)

-- So is the module of pieces whose rows are kept apart, if they pass as they are.
abbrev pub PiecesKeptApartAreCertified : Type 0
PiecesKeptApartAreCertified = (ps : List Piece) (labels : ℕ) (links bytes : List ℕ)
    (says : Says (apart ps) labels links bytes) → LabelsArePlacedOnce (apart ps) labels
    → AllByRecursion (StaysAt 0) (apart ps) → AllByRecursion HasValues ps
    → PassOn (root_passage (apart ps) labels links says.arrangement) [] (Some nothing_told) ps None
    → IsCertified (laid_module (apart ps) labels links says.arrangement)
