use Rattle.std.proofs.Common.{◌≡◌, ◌∙◌, ◌+◌, ◌∷◌, List, length, drop, sym, subst, arith, rules}
use Rattle.std.specs.List.{AllByRecursion}
use Rattle.std.proofs.lemmas.Grind.{common_steps}
use Rattle.code_pieces.specs.Pieces.{Piece}
use Rattle.code_pieces.specs.PieceViews.{piece_of, pieces_of}
use Rattle.code_pieces.specs.WellFormed.{AreNamed, IsOfOneProcess}
use Rattle.code_pieces.specs.Placed.{HavePlaced}
use Rattle.code_pieces.proofs.PlacedPieces.{then_placed}
use Rattle.code_pieces.proofs.RestOfPieces.{at_first}
use Rattle.code_pieces.proofs.RootWords.{stays_in_root}
use Rattle.code_pieces.proofs.drafting.push_pieces.Goals as goal

pub loop-piece-preserved : goal.loop-piece-preserved
loop-piece-preserved c =
    let pieces = c.args.pieces.now in
    let i = c.loop-piece.piece-index in
    let p = c.piece-item.result in
    let left = pieces_of (drop (i + 1) pieces) in
    let opened : pieces_of (drop i pieces) ≡ piece_of p ∷ left =
    at_first pieces_of pieces i p (omega arith) c.piece-item.is in
    record {
      items = first_of (search rules, grind (arith, common_steps));
      count = first_of (search rules, grind (arith, common_steps));
      placing = first_of (search rules, grind (arith, common_steps));
      there = λ new h. c.loop-piece.invariant.there new
          (subst (λ (qs : List Piece). HavePlaced c.loop-piece.code qs new) (sym opened)
          (then_placed c.loop-piece.code c.push_piece.new.code new (piece_of p) left
          c.in_ok-push_piece.ensures.there h));
      alone = λ all.
          let before = c.loop-piece.invariant.alone all in
          let rest = subst (λ (qs : List Piece). AllByRecursion IsOfOneProcess qs) opened before.1 in (
            c.workspace_behind-workspace.ensures ∙ stays_in_root (piece_of p) c.loop-piece.workspace rest.0 ∙ before.0,
            rest.1,
          );
      named = λ all.
          (subst (λ (qs : List Piece). AreNamed (length c.args.code.now.labels) qs) opened
          (c.loop-piece.invariant.named all)).1;
    }
