-- The module of pieces that pass is certified once their rows are kept apart.
use Rattle.std.proofs.Common.{pos, Bool, true, false, List, [], ◌∷◌, ◌++◌}
use Rattle.std.specs.Prelude.{◌&&◌, if◌then◌else◌}
use Rattle.std.specs.List.{AllByRecursion}
use Rattle.code_pieces.specs.Pieces.{Piece, constant}
use Rattle.code_pieces.specs.Laying.{is_row, at_row_behind, apart_from, apart}
use Rattle.certified_modules.specs.Certifying.{nothing_told, HasValues, PiecesKeptApartAreCertified}
use Rattle.certified_modules.specs.RootRows.{root_passage}
use Rattle.certified_modules.proofs.Certifying.{passed_modules_are_certified}
use Rattle.certified_modules.proofs.PassingLaws.{pieces_pass_apart}

all_by : (P : Piece → Type 0) (put : Bool) (p : Piece) (xs : List Piece) → P (constant (pos 0)) → P p
    → AllByRecursion P xs → AllByRecursion P ((if put then constant (pos 0) ∷ p ∷ [] else p ∷ []) ++ xs)
all_by P true p xs between one rest = (between, (one, rest))
all_by P false p xs between one rest = (one, rest)

-- what holds of each piece, and of what is put between rows
all_apart : (P : Piece → Type 0) (b : Bool) (ps : List Piece) → P (constant (pos 0)) → AllByRecursion P ps
    → AllByRecursion P (apart_from b ps)
all_apart P b [] between all = tt
all_apart P b (p ∷ ps) between all =
    all_by P (b && is_row p) p (apart_from (at_row_behind p b) ps) between all.0
    (all_apart P (at_row_behind p b) ps between all.1)

pub pieces_kept_apart_are_certified : PiecesKeptApartAreCertified
pieces_kept_apart_are_certified ps labels links bytes says once stays filled pass =
    passed_modules_are_certified (apart ps) labels links bytes says once stays
    (all_apart HasValues true ps tt filled)
    (pieces_pass_apart (root_passage (apart ps) labels links says.arrangement) [] nothing_told _ ps pass)
