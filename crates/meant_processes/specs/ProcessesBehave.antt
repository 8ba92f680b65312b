-- The code of a process makes a process do what it means.
use Rattle.std.specs.Prelude.{◌≡◌, ℕ, ℤ, true, Some}
use Rattle.occam_parser.specs.Blocks.{Process}
use Rattle.occam_parser.specs.Words.{process_has_words}
use Rattle.scalar_ranges.specs.Environments.{Environment}
use Rattle.program_meaning.specs.Doing.{doing}
use Rattle.program_meaning.specs.Sequential.{IsSequential}
use Rattle.usage_checks.specs.ItemRules.{BreaksNoRule}
use Rattle.usage_checks.specs.Reaching.{Reaches, AProcess}
use Rattle.code_pieces.specs.Pieces.{Code}
use Rattle.code_generator.specs.Processes.{Site, process_code}
use Rattle.meant_processes.specs.Lying.{PiecesBehave}
use Rattle.meant_processes.specs.Places.{Program, surroundings, standing, AllFit, IsPlaced, CarriedAt}

-- From wherever its code lies among that of the program, where what is known is true and memory carries the
-- environment, the process does what its meaning says, and memory carries what that leaves.
abbrev pub ProcessMeans : Program → Process → Type 0
ProcessMeans p process = (first : ℕ) (s : Site) (turns : ℕ → ℤ) (env : Environment) (c : Code)
    → Reaches p.items (standing p) (AProcess first process) s.known → IsPlaced p s env
    → process_code (surroundings p) process s ≡ Some c → AllFit p c.pieces
    → PiecesBehave p.code (CarriedAt p s turns env) c.pieces (CarriedAt p s turns) (doing p.ports process env)

-- So does each process of a program that breaks no rule, if it is sequential. Its code runs in the root.
abbrev pub ProcessesBehave : Type 0
ProcessesBehave = (p : Program) (process : Process) → BreaksNoRule p.items → IsSequential process
    → process_has_words process ≡ true → p.code.footing.depth ≡ 0 → ProcessMeans p process
