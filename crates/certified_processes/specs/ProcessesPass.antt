-- The code of a process passes: from where exactly that is known of words which the scope says, to where the scope
-- after the process says it.
use Rattle.std.specs.Prelude.{◌≡◌, ℕ, true, List, length, Some}
use Rattle.occam_parser.specs.Blocks.{Process}
use Rattle.occam_parser.specs.Words.{process_has_words}
use Rattle.scalar_ranges.specs.Entries.{Entry}
use Rattle.scalar_ranges.specs.Moves.{outermost}
use Rattle.program_meaning.specs.Sequential.{IsSequential}
use Rattle.usage_checks.specs.AfterProcesses.{inside}
use Rattle.usage_checks.specs.Reaching.{Reaches, AProcess}
use Rattle.usage_checks.specs.TypedRanges.{AreInTypes}
use Rattle.code_pieces.specs.Pieces.{Piece, Code}
use Rattle.line_pieces.specs.Declarations.{Frame}
use Rattle.code_generator.specs.Processes.{Site, process_code}
use Rattle.certified_lines.specs.StraightRules.{Told}
use Rattle.certified_lines.specs.Scopes.{HoldsScope}
use Rattle.certified_modules.specs.Passing.{OpenLabel, PassOn}
use Rattle.certified_scopes.specs.Settled.{IsSettled}
use Rattle.meant_processes.specs.Places.{surroundings, standing, AllFit}
use Rattle.certified_processes.specs.Places.{Coded, bare_scene, scene, scene_at, IsInRoot, IsPlaced}

-- From what is told, pieces pass to where these names have the homes of a frame, and of their words exactly that is
-- known which they say.
pub record PassesTo (p : Coded) (f : Frame) (es : List Entry) (opened : List OpenLabel) (ps : List Piece)
    (before : Told)
    : Type 0 where
  pub after : Told
  pub passes : PassOn p.passage opened (Some before) ps (Some after)
  pub holds : HoldsScope (scene_at p f.homes) es after.frame
  pub settled : IsSettled (bare_scene p) f es
  pub typed : AreInTypes es

-- what is known of the names of a site where a process has ended
abbrev pub left_by : Coded → Process → Site → List Entry
left_by p process s = outermost (length s.known.entries) (inside p.program.around process s.known).entries

-- From wherever the walk comes to it, whatever labels are further on, the code of a process passes to the scope after
-- it.
abbrev pub ProcessPasses : Coded → Process → Type 0
ProcessPasses p process = (first : ℕ) (s : Site) (opened : List OpenLabel) (before : Told) (c : Code)
    → Reaches p.program.items (standing p.program) (AProcess first process) s.known → IsPlaced p s
    → process_code (surroundings p.program) process s ≡ Some c → AllFit p.program c.pieces
    → HoldsScope (scene p s) s.known.entries before.frame
    → PassesTo p s.frame (left_by p process s) opened c.pieces before

-- So does that of each process of a program that breaks no rule, if it is sequential.
abbrev pub ProcessesPass : Type 0
ProcessesPass = (p : Coded) (process : Process) → IsInRoot p → IsSequential process
    → process_has_words process ≡ true → ProcessPasses p process
