-- Needs of code of which no more bytes are executed than a budget may be, from the last piece to the first.
use Rattle.std.proofs.Common.{◌≡◌, ℕ, ◌+◌, ◌≤◌, List, [], length, drop, ap, subst, inl, inr, arith}
use Rattle.std.proofs.lemmas.Bool.{cases_lt}
use Rattle.std.proofs.lemmas.List.{drop-map, drop_all, length-map}
use Rattle.module_format.specs.declared.limits.TheConstants.{MAX_BUDGET}
use Rattle.code_pieces.specs.declared.piece.Piece as code_piece
use Rattle.code_pieces.specs.declared.needs.Needs as vectors
use Rattle.code_pieces.specs.PieceViews.{piece_of, pieces_of}
use Rattle.code_pieces.specs.Pieces.{Piece}
use Rattle.code_pieces.specs.Numbers.{needs_of}
use Rattle.code_pieces.specs.Needed.{IsKnown, NeedsAreWithin}

-- from this piece on, and from each one after it
pub record AreWithinFrom (first : ℕ) (ps : List Piece) (sizes : List ℕ) : Type 0 where
  pub each : (number : ℕ) → first ≤ number → (needs_of (drop number ps) (drop number sizes)).need ≤ MAX_BUDGET

-- nothing is executed after the last piece
pub none_within : (ps : List code_piece.Piece) (sizes : List ℕ) → AreWithinFrom (length ps) (pieces_of ps) sizes
none_within ps sizes = record {
  each = λ number past.
      let none : drop number (pieces_of ps) ≡ [] =
      drop_all number (pieces_of ps) (omega (arith, length-map ps piece_of)) in
      omega (arith, ap (λ (qs : List Piece). (needs_of qs (drop number sizes)).need) none);
}

-- one piece more
pub one_within : (ps : List code_piece.Piece) (sizes : List ℕ) (i : ℕ) (v : vectors.Needs)
    → IsKnown v (needs_of (pieces_of (drop i ps)) (drop i sizes)) → v.need ≤ MAX_BUDGET
    → AreWithinFrom (i + 1) (pieces_of ps) sizes → AreWithinFrom i (pieces_of ps) sizes
one_within ps sizes i v known within after = record {
  each = λ number past. elim (cases_lt i number) [
    | inl less ↦ after.each number (omega arith)
    | inr past_it ↦
        let same_one : i ≡ number = omega arith in
        let here : (needs_of (drop i (pieces_of ps)) (drop i sizes)).need ≤ MAX_BUDGET =
        omega (
          arith,
          known.need,
          ap (λ (qs : List Piece). (needs_of qs (drop i sizes)).need) (drop-map piece_of i ps),
        ) in
        subst (λ (k : ℕ). (needs_of (drop k (pieces_of ps)) (drop k sizes)).need ≤ MAX_BUDGET) same_one here
  ];
}

pub all_within : (ps : List Piece) (sizes : List ℕ) → AreWithinFrom 0 ps sizes → NeedsAreWithin ps sizes
all_within ps sizes from = record { each = λ number. from.each number (omega arith) }
