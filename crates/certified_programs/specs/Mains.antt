-- Where main of a program is, with what the scope before it says: it is settled, and held whatever is known of words.
use Rattle.std.specs.Prelude.{◌≡◌, ◌-◌, true, ℕ, List, [], length, Some, slice_get}
use Rattle.std.specs.List.{AllByRecursion}
use Rattle.machine_state.specs.Memory.{Memory}
use Rattle.states.specs.State.{Facts}
use Rattle.occam_parser.specs.Blocks.{ProgramItem, GlobalProcedure}
use Rattle.occam_parser.specs.Words.{items_have_words}
use Rattle.scalar_ranges.specs.Entries.{Entry}
use Rattle.program_meaning.specs.Sequential.{IsSequentialProgram}
use Rattle.usage_checks.specs.ItemRules.{BreaksNoRule}
use Rattle.code_pieces.specs.Pieces.{Code, Piece}
use Rattle.line_pieces.specs.Declarations.{Frame}
use Rattle.code_generator.specs.Programs.{first_word, code_of}
use Rattle.placed_code.specs.StraightPieces.{Footing}
use Rattle.meant_lines.specs.Carrying.{Carries}
use Rattle.meant_programs.specs.Mains.{FoundMain, grounded}
use Rattle.certified_lines.specs.Scopes.{Scene, HoldsScope}
use Rattle.certified_scopes.specs.Kept.{at_homes}
use Rattle.certified_scopes.specs.Settled.{HasNoWord, IsFounded, IsSettled}

-- A scope is settled in a frame, and held whatever is known of words, since no name has any.
pub record SaysNothing (g : Scene) (f : Frame) (es : List Entry) : Type 0 where
  pub settled : IsSettled g f es
  pub holds : (facts : Facts) → HoldsScope (at_homes f.homes g) es facts
  pub wordless : AllByRecursion HasNoWord f.homes
  pub outer : f.outer ≡ []

-- Main of a program with this code, which is its last item. The scope before it says nothing of words.
pub record SettledMain (items : List ProgramItem) (footing : Footing) (words : ℕ) (whole : List Piece) (m : Memory)
    (g : Scene) (code : Code) : Type 0 where
  pub found : FoundMain items footing words whole m code
  pub last : slice_get items (length items - 1) ≡ Some (GlobalProcedure found.main.procedure)
  pub scope : SaysNothing g found.main.frame found.main.outside.known.entries

-- Main of a sequential program that breaks no rule is found so, in the scene of a module that has its tables.
abbrev pub MainIsSettled : Type 0
MainIsSettled = (items : List ProgramItem) (code : Code) (footing : Footing) (words : ℕ) (whole : List Piece)
    (m : Memory) (g : Scene) → IsFounded g → BreaksNoRule items → IsSequentialProgram items
    → items_have_words items ≡ true → code_of items ≡ Some code
    → Carries (grounded footing words whole []) first_word [] [] m → SettledMain items footing words whole m g code
