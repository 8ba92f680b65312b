-- How much there is to do to write the code of a program. Procedures before the last item are written where they are
-- called, which a sequential program does not do.
use Rattle.std.specs.Prelude.{◌≡◌, ℕ, ◌+◌, nat_lt, Bool, true, false, ◌||◌, List, [], ◌∷◌, length, sum_by}
use Rattle.std.specs.Prelude.{Option, Some, None}
use Rattle.occam_parser.specs.Lines.{Constants}
use Rattle.occam_parser.specs.Blocks.{Process, Procedure, ProgramItem, GlobalConstant, GlobalProcedure}
use Rattle.program_meaning.specs.Sequential.{IsSequential, IsSequentialProgram}
use Rattle.program_work.specs.Readings.{reading_of_declaration}
use Rattle.program_work.specs.Processes.{work_of, is_steep, greatest_work, names_of, is_sequential}

abbrev pub procedure_in : ProgramItem → Option Procedure
procedure_in (GlobalConstant c) = None
procedure_in (GlobalProcedure p) = Some p

-- the last item, if it is a procedure
abbrev pub main_of : List ProgramItem → Option Procedure
main_of [] = None
main_of (item ∷ []) = procedure_in item
main_of (item ∷ next ∷ items) = main_of (next ∷ items)

-- ---- the work of a program: the lines of its constants are read, and the code of its last procedure is written

abbrev pub reading_of_item : ProgramItem → ℕ
reading_of_item (GlobalConstant c) = reading_of_declaration (Constants c)
reading_of_item (GlobalProcedure p) = 0

abbrev pub work_of_main : Option Procedure → ℕ
work_of_main None = 0
work_of_main (Some p) = work_of p.body

abbrev pub is_main_steep : Option Procedure → Bool
is_main_steep None = false
is_main_steep (Some p) = is_steep p.body

-- whether writing the code of a program may take too long
abbrev pub is_too_much_to_write : List ProgramItem → Bool
is_too_much_to_write items =
    nat_lt greatest_work (sum_by reading_of_item items + work_of_main (main_of items))
    || is_main_steep (main_of items)

-- ---- the names of a program: its items, and the names of its last procedure

abbrev pub names_of_main : Option Procedure → ℕ
names_of_main None = 0
names_of_main (Some p) = names_of p.body + length p.head.formals

-- how many names a program declares outside the bodies of the procedures that come before the last one
abbrev pub names_in : List ProgramItem → ℕ
names_in items = length items + names_of_main (main_of items)

-- ---- sequential programs

-- What is sequential by the meaning of programs is so by the test, and the last item of such a program is a procedure
-- whose body is.
pub record SequentialIsTested : Type 0 where
  pub process : (p : Process) → IsSequential p → is_sequential p ≡ true
  pub program : (items : List ProgramItem) → IsSequentialProgram items
      → (p : Procedure) × (main_of items ≡ Some p) × (is_sequential p.body ≡ true)
