-- What is asked of lines: that each action, each condition and each declaration that is reached does what it means.
use Rattle.std.specs.Prelude.{◌≡◌, ℕ, ℤ, Bool, true, Some}
use Rattle.word_arithmetic.specs.Word.{truth}
use Rattle.occam_parser.specs.Expressions.{Expression}
use Rattle.occam_parser.specs.Lines.{Action, Declaration}
use Rattle.occam_parser.specs.Blocks.{Process, Declared, Does, Act, Chosen}
use Rattle.occam_parser.specs.Words.{action_has_words, declaration_has_words, has_words}
use Rattle.scalar_ranges.specs.Environments.{Environment}
use Rattle.scalar_ranges.specs.Values.{truth_of}
use Rattle.program_meaning.specs.Doing.{acting}
use Rattle.program_meaning.specs.Storing.{declare}
use Rattle.usage_checks.specs.Reaching.{Reaches, AProcess, AComponent}
use Rattle.code_pieces.specs.Pieces.{Code}
use Rattle.line_pieces.specs.Declarations.{declaration_code}
use Rattle.line_pieces.specs.Expressions.{expression_code, is_leaf, is_small}
use Rattle.code_generator.specs.Processes.{Site, line_code, with_declaration}
use Rattle.placed_code.specs.StraightPieces.{Held, LeadOn}
use Rattle.meant_lines.specs.Pushing.{Pushes, IsCounted}
use Rattle.meant_processes.specs.Lying.{PiecesBehave}
use Rattle.meant_processes.specs.Places.{Program, surroundings, standing, ground, AllFit, IsPlaced, CarriedAt}

-- An action that is reached, and an instance that has code, behave as their tree.
abbrev pub LinesBehave : Program → Type 0
LinesBehave p = (first line : ℕ) (action : Action) (s : Site) (turns : ℕ → ℤ)
    (env : Environment) (c : Code)
    → Reaches p.items (standing p) (AProcess first (Does line (Act action))) s.known → IsPlaced p s env
    → action_has_words action ≡ true → line_code (surroundings p) action s ≡ Some c → AllFit p c.pieces
    → PiecesBehave p.code (CarriedAt p s turns env) c.pieces (CarriedAt p s turns) (acting p.ports action env)

-- The code of a condition that is reached pushes its truth.
abbrev pub ConditionsPush : Program → Type 0
ConditionsPush p = (line : ℕ) (e : Expression) (process : Process) (s : Site) (turns : ℕ → ℤ)
    (env : Environment) (holds : Bool)
    → Reaches p.items (standing p) (AComponent (Chosen line e process)) s.known → IsPlaced p s env
    → has_words e ≡ true → IsCounted s.frame.top → truth_of env e ≡ Some holds
    → Pushes (ground p s.frame.homes turns) s.frame.top s.known.entries env
    (expression_code s.frame.homes s.known.entries s.frame.top e) s.frame.top (is_leaf s.known.entries e)
    (is_small s.known.entries e) (truth holds)

-- From what is held before, the code of a declaration leads to memory that carries what is declared.
pub record Opened (p : Program) (d : Declaration) (s : Site) (turns : ℕ → ℤ) (inner : Environment) (before : Held)
    : Type 0 where
  pub after : Held
  pub leads : LeadOn p.code.footing (declaration_code s.known.entries d s.frame.top) before after
  pub carries : CarriedAt p (with_declaration d s) turns inner after.memory

-- So does that of a declaration, wherever it is reached.
abbrev pub DeclarationOpens : Program → Declaration → Type 0
DeclarationOpens p d = (first : ℕ) (process : Process) (s : Site) (turns : ℕ → ℤ)
    (env inner : Environment) (h : Held)
    → Reaches p.items (standing p) (AProcess first (Declared d process)) s.known → IsPlaced p s env
    → declaration_has_words d ≡ true → declare d env ≡ Some inner
    → AllFit p (declaration_code s.known.entries d s.frame.top) → CarriedAt p s turns env h.memory
    → Opened p d s turns inner h
