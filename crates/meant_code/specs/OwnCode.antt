-- The code of processes and programs places labels of its own, once each, and stays at the workspace of the root.
use Rattle.std.specs.Prelude.{◌≡◌, ⊤, ℕ, ℤ, List, [], ◌++◌, Some, FitsSigned}
use Rattle.std.specs.Int.{w32}
use Rattle.std.specs.List.{AllByRecursion}
use Rattle.prefix_decoder.specs.declared.function.Fun.{Fun}
use Rattle.prefix_decoder.specs.declared.function.Fun.TheVariants as fun
use Rattle.occam_parser.specs.Blocks.{Process, ProgramItem}
use Rattle.program_uses.specs.Actions.{Around}
use Rattle.code_pieces.specs.Pieces.{Piece, Direct, Code}
use Rattle.code_pieces.specs.Laying.{apart}
use Rattle.placed_code.specs.LaidCode.{labels_in, LabelsArePlacedOnce, IsPart}
use Rattle.code_generator.specs.Calls.{Callee, where_called}
use Rattle.code_generator.specs.Processes.{Site, process_code}
use Rattle.code_generator.specs.Programs.{code_of}
use Rattle.meant_code.specs.Labels.{EachOnce, ArePlain, AllLead}

-- Pieces that place each label from the one up to the other once, and no other. They are of one process, at one
-- workspace. Where they jump to is after who jumps, in the pieces or among these labels.
pub record AreOwn (from to : ℕ) (after : List ℕ) (ps : List Piece) : Type 0 where
  pub once : EachOnce from to (labels_in ps)
  pub plain : ArePlain ps
  pub lead : AllLead [] after ps

-- So it is of a process that has code, from the label that is free where it begins up to the one that it leaves free.
abbrev pub ProcessesAreOwn : Type 0
ProcessesAreOwn = (cs : List Callee) (a : Around) (count : ℕ) (p : Process) (s : Site) (c : Code)
    → process_code (where_called cs a count) p s ≡ Some c → AreOwn s.label c.labels [] c.pieces

-- So it is of a program that has code, and of its code with rows kept apart.
abbrev pub ProgramsAreOwn : Type 0
ProgramsAreOwn = (items : List ProgramItem) (c : Code) → code_of items ≡ Some c
    → AreOwn 0 c.labels [] c.pieces × AreOwn 0 c.labels [] (apart c.pieces)

-- Each label of its pieces is placed once.
abbrev pub LabelsStayOnce : Type 0
LabelsStayOnce = (items : List ProgramItem) (c : Code) → code_of items ≡ Some c
    → LabelsArePlacedOnce (apart c.pieces) c.labels

-- the operand is a word, if it doesn't name one of the frame
abbrev pub FitsUnlessNamed : Fun → ℤ → Type 0
FitsUnlessNamed fun.LoadLocal e = ⊤
FitsUnlessNamed fun.StoreLocal e = ⊤
FitsUnlessNamed fun.LoadLocalPointer e = ⊤
FitsUnlessNamed f e = FitsSigned w32 e

abbrev pub OperandFits : Piece → Type 0
OperandFits (Direct f e) = FitsUnlessNamed f e
OperandFits p = ⊤

-- Pieces of a program are a part of it, at the workspace of the root, if their constants are words.
abbrev pub ProgramsHaveParts : Type 0
ProgramsHaveParts = (items : List ProgramItem) (c : Code) → code_of items ≡ Some c
    → (before part rest : List Piece) → apart c.pieces ≡ before ++ part ++ rest
    → AllByRecursion OperandFits part → IsPart (apart c.pieces) before part 0
