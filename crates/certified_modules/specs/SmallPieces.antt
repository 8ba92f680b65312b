-- Small pieces that pass: a loop of three turns, and a test behind it.
use Rattle.std.specs.Prelude.{ℕ, pos, List, [], ◌∷◌, ◌++◌}
use Rattle.code_pieces.specs.declared.operations.TheConstants.{STOP_PROCESS}
use Rattle.code_pieces.specs.declared.piece.RowEntry.{RowEntry}
use Rattle.code_pieces.specs.declared.piece.WordFact.TheVariants.{Between, Turning}
use Rattle.code_pieces.specs.LaidModule.{Arrangement}
use Rattle.code_pieces.specs.Pieces.{Piece, JumpUnless, LoopBack, Row, operates, constant, stores, points}
use Rattle.certified_modules.specs.Certifying.{AllPass}

-- the base and the count, in words 2 and 3
abbrev pub enters_small_loop : List Piece
enters_small_loop = constant (pos 1) ∷ stores 2 ∷ constant (pos 3) ∷ stores 3 ∷ []

-- a number is stored in word 4, and the address of the block is pushed
abbrev pub small_turn : List Piece
small_turn = constant (pos 7) ∷ stores 4 ∷ points 2 ∷ []

-- the block of the loop, with its head at label 0
abbrev pub in_small_loop : List RowEntry
in_small_loop = record { word = 2; span = 2; fact = Turning 0 (pos 1) 3 } ∷ []

-- behind it the index is known, and that no turn is left
abbrev pub behind_small_loop : List RowEntry
behind_small_loop =
    record { word = 2; span = 1; fact = Between (pos 3) (pos 3) }
    ∷ record { word = 3; span = 1; fact = Between (pos 0) (pos 9) } ∷ []

-- the loop, with label 1 behind it
abbrev pub small_loop : List Piece
small_loop = Row 0 in_small_loop ∷ small_turn ++ LoopBack 0 1 ∷ Row 1 behind_small_loop ∷ []

-- a truth is tested; where it does not hold, label 2 is next
abbrev pub small_test : List Piece
small_test = constant (pos 1) ∷ JumpUnless 2 ∷ operates STOP_PROCESS ∷ []

abbrev pub small_pieces : List Piece
small_pieces = enters_small_loop ++ (small_loop ++ ((small_test ++ Row 2 [] ∷ []) ++ operates STOP_PROCESS ∷ []))

-- In any module of these pieces they pass.
abbrev pub SmallPiecesPass : Type 0
SmallPiecesPass = (labels : ℕ) (links : List ℕ) (a : Arrangement) → AllPass small_pieces labels links a
