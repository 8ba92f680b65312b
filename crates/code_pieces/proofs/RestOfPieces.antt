-- Pieces that are gone over one after the other: what is to be said of the first of the rest.
use Rattle.std.proofs.Common.{◌≡◌, ℕ, ◌+◌, ◌<◌, List, ◌∷◌, length, drop, get_or, sym, ap, ◌∙◌, subst}
use Rattle.std.proofs.lemmas.List.{at_drop_more, drop-map, get_or_default}
use Rattle.code_pieces.specs.declared.piece.Piece as code_piece
use Rattle.code_pieces.specs.declared.needs.Needs as vectors
use Rattle.code_pieces.specs.Needed.{IsKnown}
use Rattle.code_pieces.specs.PieceViews.{piece_of, pieces_of}
use Rattle.code_pieces.specs.Numbers.{needed_before, needs_of}
use Rattle.code_pieces.specs.Pieces.{Piece}

-- what a function gives for the rest of a list, of which this is the first element
pub at_first : {X Y : Type 0} (F : List X → Y) (xs : List X) (i : ℕ) (x : X) → i < length xs → x ≡ get_or xs i x
    → F (drop i xs) ≡ F (x ∷ drop (i + 1) xs)
at_first F xs i x h is = at_drop_more F xs i x h ∙ ap (λ y. F (y ∷ drop (i + 1) xs)) (sym is)

-- what is needed from a piece on, by what is needed after it
pub needed_first : (ps : List code_piece.Piece) (sizes : List ℕ) (i : ℕ) (p : code_piece.Piece) (n : ℕ)
    → i < length ps → i < length sizes → p ≡ get_or ps i p → n ≡ get_or sizes i n
    → needs_of (drop i (pieces_of ps)) (drop i sizes)
    ≡ needed_before (piece_of p) n (needs_of (pieces_of (drop (i + 1) ps)) (drop (i + 1) sizes))
needed_first ps sizes i p n h k is size =
    ap (λ (qs : List Piece). needs_of qs (drop i sizes)) (drop-map piece_of i ps)
    ∙ at_first (λ (qs : List code_piece.Piece). needs_of (pieces_of qs) (drop i sizes)) ps i p h is
    ∙ at_first (λ (ns : List ℕ). needs_of (piece_of p ∷ pieces_of (drop (i + 1) ps)) ns) sizes i n k size

-- A piece is come to from behind: what is needed after it is known, and what is needed from it on goes by that.
pub record IsReached (ps : List code_piece.Piece) (sizes : List ℕ) (i : ℕ) (p : code_piece.Piece) (v : vectors.Needs)
    : Type 0 where
  pub known : IsKnown v (needs_of (pieces_of (drop (i + 1) ps)) (drop (i + 1) sizes))
  pub step : needs_of (drop i (pieces_of ps)) (drop i sizes)
      ≡ needed_before (piece_of p) (get_or sizes i 0) (needs_of (pieces_of (drop (i + 1) ps)) (drop (i + 1) sizes))

pub is_reached : (ps : List code_piece.Piece) (sizes : List ℕ) (number i : ℕ) (p : code_piece.Piece)
    (v : vectors.Needs) → number ≡ i + 1 → i < length ps → i < length sizes → p ≡ get_or ps i p
    → IsKnown v (needs_of (pieces_of (drop number ps)) (drop number sizes)) → IsReached ps sizes i p v
is_reached ps sizes number i p v next h k is known = record {
  known = subst (λ n. IsKnown v (needs_of (pieces_of (drop n ps)) (drop n sizes))) next known;
  step = needed_first ps sizes i p (get_or sizes i 0) h k is (get_or_default sizes i 0 (get_or sizes i 0) k);
}
