-- From what main's code does to what a run of its module reads, writes and comes to.
use Rattle.std.specs.Prelude.{◌≡◌, ◌≢◌, ℕ, Bool, List, Option}
use Rattle.occam_parser.specs.Blocks.{Process, ProgramItem}
use Rattle.scalar_ranges.specs.Environments.{Environment}
use Rattle.program_meaning.specs.Links.{Port, Links}
use Rattle.program_meaning.specs.Running.{run}
use Rattle.program_meaning.specs.Meaning.{NoValue, meaning, run_program}
use Rattle.program_meaning.specs.Doing.{doing}
use Rattle.verifier.specs.Headline.{RunsWell}
use Rattle.code_pieces.specs.Pieces.{Piece}
use Rattle.code_pieces.specs.LaidModule.{Says, laid_module}
use Rattle.placed_code.specs.Behaves.{Behaves, Finishes}
use Rattle.placed_code.specs.Closing.{first_point}
use Rattle.placed_code.specs.LaidCode.{LaidCode, laid_code}
use Rattle.placed_code.specs.Points.{Point}
use Rattle.meant_runs.specs.Meant.{RunsAsMeant}

-- The program is this process, with these links and these names before it.
pub record IsMain (items : List ProgramItem) : Type 0 where
  pub ports : List (Option Port)
  pub body : Process
  pub names : Environment
  pub runs : (listens : List Bool) (l : Links)
      → run_program items listens l ≡ run (record { ports = ports; listens = listens }) body names l

-- Main's code does from a point on what main does, and where that leaves names, the module finishes next.
pub record MainBehaves (c : LaidCode) (p : Point) (items : List ProgramItem) : Type 0 where
  pub main : IsMain items
  pub behaves : Behaves c (λ env q. Finishes c q) p (doing main.ports main.body main.names)

-- whatever comes in, and whoever listens, the program comes to nothing without a value
abbrev pub HasMeaning : List ProgramItem → Type 0
HasMeaning items = (inputs : List (List ℕ)) (listens : List Bool) → (meaning items inputs listens).ending ≢ NoValue

-- A module of pieces that runs well, and whose code does what main does, runs as the program means.
abbrev pub RunsFollowMain : Type 0
RunsFollowMain = (ps : List Piece) (labels : ℕ) (links bytes : List ℕ) (says : Says ps labels links bytes)
    (items : List ProgramItem) → let m = laid_module ps labels links says.arrangement in
    ∥ RunsWell m ∥₁ → HasMeaning items
    → MainBehaves (laid_code ps labels says.arrangement.lengths 0) (first_point m) items → RunsAsMeant m items
