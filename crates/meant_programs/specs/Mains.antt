-- Where main of a program is: what is known there, what names hold, and what memory carries of them.
use Rattle.std.specs.Prelude.{◌≡◌, true, ℕ, pos, Bool, List, [], length, None, Some}
use Rattle.std.specs.List.{AllByRecursion}
use Rattle.machine_state.specs.Memory.{Memory}
use Rattle.occam_parser.specs.Blocks.{Procedure, ProgramItem, GlobalProcedure}
use Rattle.occam_parser.specs.Words.{process_has_words, items_have_words}
use Rattle.scalar_ranges.specs.declared.scope.ArrayKind.TheVariants as array
use Rattle.scalar_ranges.specs.Entries as entries
use Rattle.scalar_ranges.specs.Entries.{Meaning, Constant, Array}
use Rattle.scalar_ranges.specs.Environments.{Environment}
use Rattle.scalar_ranges.specs.MoveLaws.{shape}
use Rattle.program_meaning.specs.GoingWell.{IsTrueIn}
use Rattle.program_meaning.specs.Links.{Links}
use Rattle.program_meaning.specs.Meaning.{in_main, run_program}
use Rattle.program_meaning.specs.Sequential.{IsSequential, IsSequentialProgram}
use Rattle.usage_checks.specs.ItemRules.{Outside, outermost, around_in, BreaksNoRule}
use Rattle.usage_checks.specs.MainRules.{are_links, is_main_name}
use Rattle.usage_checks.specs.Reaching.{Comes}
use Rattle.code_pieces.specs.Pieces.{Code, Piece}
use Rattle.line_pieces.specs.Homes.{Home}
use Rattle.line_pieces.specs.Declarations.{Frame}
use Rattle.code_generator.specs.Calls.{Callee, where_called}
use Rattle.code_generator.specs.Processes.{Site}
use Rattle.code_generator.specs.Programs.{first_word, main_code, code_of}
use Rattle.placed_code.specs.StraightPieces.{Footing}
use Rattle.meant_lines.specs.Carrying.{Ground, Carries}
use Rattle.meant_processes.specs.Places.{IsOwn}

-- the ground under main, where no loop is open
abbrev pub grounded : Footing → ℕ → List Piece → List Home → Ground
grounded footing words whole homes =
    record { footing = footing; words = words; pieces = whole; homes = homes; turns = λ w. pos 0 }

-- where main's links are declared
abbrev pub before_main : Outside → Frame → Site
before_main o f = record { frame = f; known = o.known; label = 0 }

-- a constant, a table or a procedure
abbrev pub IsFixed : Meaning → Type 0
IsFixed (Constant type value) = Unit {0}
IsFixed (Array array.Table type size range) = Unit {0}
IsFixed (entries.Procedure number) = Unit {0}
IsFixed m = ⊥

-- Main of a program with this code: its procedure, what is known before it, and the names there.
pub record FoundProcedure (items : List ProgramItem) (code : Code) : Type 0 where
  pub outside : Outside
  pub procedure : Procedure
  pub callees : List Callee
  pub frame : Frame
  pub names : Environment
  pub comes : Comes outside (GlobalProcedure procedure) items outermost
  pub is : main_code (where_called callees (around_in outside) (length callees)) procedure
      (before_main outside frame) ≡ Some code
  pub named : is_main_name procedure.head.name ≡ true
  pub links : are_links procedure.head.formals ≡ true
  pub sequential : IsSequential procedure.body
  pub has_words : process_has_words procedure.body ≡ true

-- The program runs as main does, where memory carries the names before it.
pub record FoundMain (items : List ProgramItem) (footing : Footing) (words : ℕ) (whole : List Piece) (m : Memory)
    (code : Code) : Type 0 where
  pub main : FoundProcedure items code
  pub runs : (listens : List Bool) (l : Links)
      → run_program items listens l ≡ in_main listens main.procedure main.names l
  pub holds : IsTrueIn main.outside.known.entries main.names
  pub own : AllByRecursion (λ e. IsOwn e.meaning) (shape main.outside.known.entries)
  pub fixed : AllByRecursion (λ e. IsFixed e.meaning) main.outside.known.entries
  pub blocks : main.outside.known.blocks ≡ []
  pub counted : main.outside.uncounted ≡ None
  pub long : length main.frame.homes ≡ length main.outside.known.entries
  pub top : main.frame.top ≡ first_word
  pub carries : Carries (grounded footing words whole main.frame.homes) main.frame.top main.outside.known.entries
      main.names m

-- Main of a sequential program that breaks no rule is found, where memory carries that there are no names.
abbrev pub MainIsFound : Type 0
MainIsFound = (items : List ProgramItem) (code : Code) (footing : Footing) (words : ℕ) (whole : List Piece) (m : Memory)
    → BreaksNoRule items → IsSequentialProgram items → items_have_words items ≡ true → code_of items ≡ Some code
    → Carries (grounded footing words whole []) first_word [] [] m → FoundMain items footing words whole m code
