-- What pieces say where their rows are kept apart, by a constant before each row that would be at the place of another.
use Rattle.std.proofs.Common.{◌≡◌, pos, Bool, true, false, cond, List, [], ◌∷◌, ◌++◌, refl, ◌∙◌}
use Rattle.std.specs.Prelude.{◌&&◌}
use Rattle.std.specs.List.{AllByRecursion}
use Rattle.code_pieces.specs.Pieces.{Piece, constant}
use Rattle.code_pieces.specs.Laying.{apart_from, at_row_behind, is_row}

-- What a constant before pieces leaves as it is, and is the same of pieces that begin alike where it is the same of the
-- others, is the same where rows are kept apart.
pub apart_same : {A : Type 0} (said : List Piece → A)
    → ((ps : List Piece) → said (constant (pos 0) ∷ ps) ≡ said ps)
    → ((p : Piece) (ps qs : List Piece) → said ps ≡ said qs → said (p ∷ ps) ≡ said (p ∷ qs))
    → (at_row : Bool) (ps : List Piece) → said (apart_from at_row ps) ≡ said ps
apart_same said filled after at_row [] = refl
apart_same said filled after at_row (p ∷ ps) =
    let rest = apart_from (at_row_behind p at_row) ps in
    by_row (at_row && is_row p) rest ∙ after p rest ps (apart_same said filled after (at_row_behind p at_row) ps)
  where
    by_row : (b : Bool) (rest : List Piece)
        → said (cond b (constant (pos 0) ∷ p ∷ []) (p ∷ []) ++ rest) ≡ said (p ∷ rest)
    by_row true rest = filled (p ∷ rest)
    by_row false rest = refl

filled_all : (P : Piece → Type 0) (b : Bool) (p : Piece) (rest : List Piece)
    → AllByRecursion P (cond b (constant (pos 0) ∷ p ∷ []) (p ∷ []) ++ rest) → P p × AllByRecursion P rest
filled_all P true p rest all = all.1
filled_all P false p rest all = all

-- what holds of all pieces whose rows are kept apart holds of all pieces
pub unfilled : (P : Piece → Type 0) (at_row : Bool) (ps : List Piece) → AllByRecursion P (apart_from at_row ps)
    → AllByRecursion P ps
unfilled P at_row [] all = tt
unfilled P at_row (p ∷ ps) all =
    let both = filled_all P (at_row && is_row p) p (apart_from (at_row_behind p at_row) ps) all in
    (both.0, unfilled P (at_row_behind p at_row) ps both.1)
