use Rattle.std.proofs.Common.{◌≡◌, ◌≤◌, max, drop}
use Rattle.code_pieces.specs.PieceViews.{pieces_of}
use Rattle.code_pieces.specs.Laying.{words_named, words_taken}
use Rattle.code_pieces.proofs.words.words_taken.Given as goal

abbrev pub invariant-loop-piece : goal.invariant-loop-piece
invariant-loop-piece l = record {
  value : max l.words (words_named (pieces_of (drop l.piece-index l.pieces))) ≡ words_taken (pieces_of l.pieces);
  small : l.words ≤ 2147483650;
}
