-- The pieces of sequential programs are valid, and so are the modules that say them.
use Rattle.std.proofs.Common.{◌≡◌, ℕ, Bool, true, false, List, [], ◌∷◌, ◌++◌, Option, Some, None, refl}
use Rattle.std.proofs.Common.{sym, ap, subst, ◌∙◌, arith}
use Rattle.std.specs.Prelude.{⊤}
use Rattle.std.specs.List.{AllByRecursion}
use Rattle.occam_parser.specs.Blocks.{GlobalConstant, GlobalProcedure, ProgramItem}
use Rattle.usage_checks.specs.ItemRules.{Outside, after_item, around_in, outermost, weighed}
use Rattle.code_pieces.specs.declared.operations.TheConstants.{STOP_PROCESS}
use Rattle.code_pieces.specs.Pieces.{Code, Par, Piece, Row}
use Rattle.code_pieces.specs.Pieces.{TableAddress, Within, closed_by, operates}
use Rattle.code_pieces.specs.Laying.{apart, apart_from, words_taken}
use Rattle.line_pieces.specs.Declarations.{Frame}
use Rattle.code_generator.specs.Calls.{Callee, where_called}
use Rattle.code_generator.specs.Processes.{process_code}
use Rattle.code_generator.specs.Programs.{callable, code_of, framed, in_main, items_code, last_item_code, no_frame}
use Rattle.meant_code.specs.AmongOthers.{at_row_after}
use Rattle.meant_code.specs.Labels.{ArePlain, IsPlain}
use Rattle.meant_code.proofs.AmongOthers.{apart_takes_no_more, parts_are_apart}
use Rattle.meant_code.proofs.OwnPrograms.{labels_stay_once, programs_are_own}
use Rattle.valid_code.specs.RowsInTurn.{IsRowInTurn}
use Rattle.valid_code.specs.RowsSaid.{SaysWords}
use Rattle.valid_code.specs.ValidPieces.{EndInInstruction, IsValidPiece}
use Rattle.valid_code.specs.ValidPrograms.{ProgramsAreValid, SaysTables, SequentialModulesAreValid}
use Rattle.valid_code.proofs.KeptApart.{apart_all}
use Rattle.valid_code.proofs.ModulesValid.{modules_are_valid, rows_are_apart}
use Rattle.valid_code.proofs.RowsInTurn.{rows_are_in_turn}
use Rattle.valid_code.proofs.RowsSaid.{rows_are_said}

-- ---- the end of a program

-- code that ends where the process stops
abbrev Stops : Option Code → Type 0
Stops None = ⊤
Stops (Some c) = (front : List Piece) × (c.pieces ≡ front ++ operates STOP_PROCESS ∷ [])

closed_stops : (code : Option Code) → Stops (closed_by (operates STOP_PROCESS ∷ []) code)
closed_stops None = tt
closed_stops (Some c) = (c.pieces, refl)

last_stops : (item : ProgramItem) (cs : List Callee) (o : Outside) (f : Frame) → Stops (last_item_code item cs o f)
last_stops (GlobalConstant c) cs o f = tt
last_stops (GlobalProcedure p) cs o f =
    closed_stops (process_code (where_called cs (around_in o) _) p.body
    (in_main p (record { frame = f; known = o.known; label = 0 })))

items_stop : (item : ProgramItem) (items : List ProgramItem) (cs : List Callee) (o : Outside) (f : Frame)
    → Stops (items_code item items cs o f)
items_stop item [] cs o f = last_stops item cs (weighed item o) f
items_stop item (next ∷ items) cs o f =
    items_stop next items (callable item _ cs) (after_item item o) (framed item o f)

program_stops : (items : List ProgramItem) → Stops (code_of items)
program_stops [] = tt
program_stops (item ∷ items) = items_stop item items [] outermost no_frame

-- the last piece is not set apart
last_alone : (at_row : Bool) → apart_from at_row (operates STOP_PROCESS ∷ []) ≡ operates STOP_PROCESS ∷ []
last_alone true = refl
last_alone false = refl

ends : (items : List ProgramItem) (c : Code) → code_of items ≡ Some c → EndInInstruction (apart c.pieces)
ends items c is =
    let stops : Stops (Some c) = subst Stops is (program_stops items) in
    let front = stops.0 in
    let last = operates STOP_PROCESS ∷ [] in
    record {
      front = apart front;
      fun = _;
      operand = _;
      whole = ap apart stops.1 ∙ parts_are_apart true front last
          ∙ ap (λ (ps : List Piece). apart front ++ ps) (last_alone (at_row_after true front));
    }

-- ---- each piece

piece_valid : (words labels : ℕ) (p : Piece) → IsPlain p → IsRowInTurn words p → SaysWords labels p → SaysTables p
    → IsValidPiece words p
piece_valid words labels (Row l entries) plain turn says tables = record { turn = turn; facts = says.0 }
piece_valid words labels (TableAddress values) plain turn says tables = tables
piece_valid words labels (Within workspace) plain turn says tables = absurd plain
piece_valid words labels (Par par) plain turn says tables = absurd plain
piece_valid words labels p plain turn says tables = tt

pieces_valid : (words labels : ℕ) (ps : List Piece) → ArePlain ps → AllByRecursion (IsRowInTurn words) ps
    → AllByRecursion (SaysWords labels) ps → AllByRecursion SaysTables ps → AllByRecursion (IsValidPiece words) ps
pieces_valid words labels [] plain turn says tables = tt
pieces_valid words labels (p ∷ ps) plain turn says tables = (
  piece_valid words labels p plain.0 turn.0 says.0 tables.0,
  pieces_valid words labels ps plain.1 turn.1 says.1 tables.1,
)

pub programs_are_valid : ProgramsAreValid
programs_are_valid items c seq unbroken literals is tables few =
    let ps = c.pieces in
    record {
      each = subst (λ (words : ℕ). AllByRecursion (IsValidPiece words) (apart ps)) (sym (apart_takes_no_more ps))
          (apart_all (IsValidPiece (words_taken ps)) true ps tt
          (pieces_valid (words_taken ps) c.labels ps (programs_are_own items c is).0.plain
          (rows_are_in_turn items c seq is few) (rows_are_said items c seq unbroken literals is) tables));
      once = labels_stay_once items c is;
      apart = rows_are_apart ps;
      ends = ends items c is;
    }

pub sequential_modules_are_valid : SequentialModulesAreValid
sequential_modules_are_valid items c seq unbroken literals is tables links a eight arranged within =
    let same = apart_takes_no_more c.pieces in
    let wide = within.contents.data_words in
    modules_are_valid (apart c.pieces) c.labels links a
    (programs_are_valid items c seq unbroken literals is tables (omega (arith, same, wide))) eight arranged within
