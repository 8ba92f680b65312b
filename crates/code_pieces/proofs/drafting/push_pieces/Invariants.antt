use Rattle.std.proofs.Common.{◌≡◌, ◌++◌, List, length, drop}
use Rattle.std.specs.List.{AllByRecursion}
use Rattle.module_builder.specs.Drafts.{Code}
use Rattle.code_pieces.specs.Pars.{in_root}
use Rattle.code_pieces.specs.PieceViews.{pieces_of}
use Rattle.code_pieces.specs.Numbers.{Numbered}
use Rattle.code_pieces.specs.Laying.{items_from, items_of}
use Rattle.code_pieces.specs.Placing.{IsPlacing}
use Rattle.code_pieces.specs.WellFormed.{AreNamed, IsOfOneProcess}
use Rattle.code_pieces.specs.Placed.{HavePlaced}
use Rattle.code_pieces.proofs.drafting.push_pieces.Given as goal

abbrev pub invariant-loop-piece : goal.invariant-loop-piece
invariant-loop-piece l = record {
  items : l.code.items ++ items_from l.workspace l.tables (pieces_of (drop l.piece-index l.pieces))
      ≡ l.initial.code.items ++ items_of l.tables (pieces_of l.pieces);
  count : length l.code.labels ≡ length l.initial.code.labels;
  placing : (placed : List Numbered) → IsPlacing l.initial.code (pieces_of l.pieces) placed
      → IsPlacing l.code (pieces_of (drop l.piece-index l.pieces)) placed;
  there : (new : Code) → HavePlaced l.code (pieces_of (drop l.piece-index l.pieces)) new
      → HavePlaced l.initial.code (pieces_of l.pieces) new;
  alone : AllByRecursion IsOfOneProcess (pieces_of l.pieces)
      → (l.workspace ≡ in_root) × AllByRecursion IsOfOneProcess (pieces_of (drop l.piece-index l.pieces));
  named : AreNamed (length l.initial.code.labels) (pieces_of l.pieces)
      → AreNamed (length l.initial.code.labels) (pieces_of (drop l.piece-index l.pieces));
}
