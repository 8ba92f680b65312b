-- What holds of pieces holds of them once their rows are kept apart.
use Rattle.std.proofs.Common.{Bool, true, false, cond, List, [], ◌∷◌, ◌++◌, pos}
use Rattle.std.specs.Prelude.{◌&&◌}
use Rattle.std.specs.List.{AllByRecursion}
use Rattle.code_pieces.specs.Pieces.{Piece, constant}
use Rattle.code_pieces.specs.Laying.{apart_from, at_row_behind, is_row}

filled_all : (P : Piece → Type 0) (b : Bool) (p : Piece) (rest : List Piece) → P (constant (pos 0)) → P p
    → AllByRecursion P rest → AllByRecursion P (cond b (constant (pos 0) ∷ p ∷ []) (p ∷ []) ++ rest)
filled_all P true p rest fill is others = (fill, (is, others))
filled_all P false p rest fill is others = (is, others)

-- if it holds of the constant that is put before rows
pub apart_all : (P : Piece → Type 0) (at_row : Bool) (ps : List Piece) → P (constant (pos 0)) → AllByRecursion P ps
    → AllByRecursion P (apart_from at_row ps)
apart_all P at_row [] fill all = tt
apart_all P at_row (p ∷ ps) fill all =
    let next = at_row_behind p at_row in
    filled_all P (at_row && is_row p) p (apart_from next ps) fill all.0 (apart_all P next ps fill all.1)
