-- What holds of all pieces, or of all entries of a row, holds of each.
use Rattle.std.proofs.Common.{◌≡◌, ℕ, zero, suc, ◌<◌, List, [], ◌∷◌, ◌++◌, length, get_or, refl, sym, subst}
use Rattle.std.proofs.Common.{arith}
use Rattle.std.specs.List.{AllByRecursion}
use Rattle.code_pieces.specs.declared.piece.Piece as code_piece
use Rattle.code_pieces.specs.declared.piece.RowEntry.{RowEntry}
use Rattle.code_pieces.specs.PieceViews.{piece_of, pieces_of}
use Rattle.code_pieces.specs.declared.piece.Piece.TheVariants as pieces
use Rattle.code_pieces.specs.declared.piece.Workspace.{Workspace}
use Rattle.code_pieces.specs.Pieces.{Piece, Row}
use Rattle.code_pieces.specs.Laying.{workspace_behind}
use Rattle.code_pieces.specs.WellFormed.{AreBelow, AreNamed, labels_named, heads_of, heads_said}
use Rattle.code_pieces.specs.WellFormed.{HaveFewWords, IsOfOneProcess}

pub piece_at : (P : Piece → Type 0) (ps : List code_piece.Piece) (i : ℕ) (p : code_piece.Piece) → i < length ps
    → p ≡ get_or ps i p → AllByRecursion P (pieces_of ps) → P (piece_of p)
piece_at P [] i p h is all = absurd (omega arith)
piece_at P (q ∷ ps) zero p h is all = subst (λ (r : code_piece.Piece). P (piece_of r)) (sym is) all.0
piece_at P (q ∷ ps) (suc i) p h is all = piece_at P ps i p (omega arith) is all.1

below_front : (n : ℕ) (xs ys : List ℕ) → AreBelow n (xs ++ ys) → AreBelow n xs
below_front n [] ys all = tt
below_front n (x ∷ xs) ys all = (all.0, below_front n xs ys all.1)

below_rest : (n : ℕ) (xs ys : List ℕ) → AreBelow n (xs ++ ys) → AreBelow n ys
below_rest n [] ys all = all
below_rest n (x ∷ xs) ys all = below_rest n xs ys all.1

-- the heads that an entry says are there, if those of all entries are
pub heads_at : (n : ℕ) (es : List RowEntry) (i : ℕ) (d : RowEntry) → i < length es → AreBelow n (heads_said es)
    → AreBelow n (heads_of (get_or es i d).fact)
heads_at n [] i d h all = absurd (omega arith)
heads_at n (e ∷ es) zero d h all = below_front n (heads_of e.fact) (heads_said es) all
heads_at n (e ∷ es) (suc i) d h all =
    heads_at n es i d (omega arith) (below_rest n (heads_of e.fact) (heads_said es) all)

-- a row among pieces whose labels are named and that have few words
pub row_there : (n : ℕ) (ps : List code_piece.Piece) (i : ℕ) (p : code_piece.Piece) (l : ℕ) (es : List RowEntry)
    → i < length ps → p ≡ get_or ps i p → piece_of p ≡ Row l es → AreNamed n (pieces_of ps)
    → AllByRecursion HaveFewWords (pieces_of ps) → AreBelow n (labels_named (Row l es)) × HaveFewWords (Row l es)
row_there n ps i p l es h is row named few = (
  subst (λ (q : Piece). AreBelow n (labels_named q)) row
      (piece_at (λ (q : Piece). AreBelow n (labels_named q)) ps i p h is named),
  subst HaveFewWords row (piece_at HaveFewWords ps i p h is few),
)

stays : (p : code_piece.Piece) (w : Workspace) → IsOfOneProcess (piece_of p)
    → workspace_behind (piece_of p) w ≡ w
stays (pieces.Within workspace) w alone = absurd alone
stays (pieces.Direct fun operand) w alone = refl
stays (pieces.Jump to) w alone = refl
stays (pieces.JumpUnless to) w alone = refl
stays (pieces.LoopBack head behind) w alone = refl
stays (pieces.Distance from to) w alone = refl
stays (pieces.StartBranch entry successor) w alone = refl
stays (pieces.Select targets) w alone = refl
stays (pieces.TableAddress values) w alone = refl
stays (pieces.Row label entries) w alone = refl
stays (pieces.Place label) w alone = refl
stays (pieces.Par par) w alone = refl

-- no piece of code of one process moves the workspace
pub still_there : (ps : List code_piece.Piece) (i : ℕ) (p : code_piece.Piece) (w : Workspace) → i < length ps
    → p ≡ get_or ps i p → AllByRecursion IsOfOneProcess (pieces_of ps) → workspace_behind (piece_of p) w ≡ w
still_there ps i p w h is alone = stays p w (piece_at IsOfOneProcess ps i p h is alone)
