-- The code of small programs, by computing it.
use Rattle.std.proofs.Common.{refl}
use Rattle.word_arithmetic.specs.Binary as binary
use Rattle.code_pieces.specs.Pieces.{counted, word_after}
use Rattle.code_generator.specs.SmallCode.{SumsHaveCode, PiecesFollow}

pub sums_have_code : SumsHaveCode
unfolding binary.computed binary.result_range counted word_after
sums_have_code = record {
  pieces = refl;
  apart = refl;
  lengths = refl;
  bytes = refl;
  rows = refl;
  budget = refl;
  words = refl;
}

pub pieces_follow : PiecesFollow
unfolding binary.computed binary.result_range counted word_after
pieces_follow = record { echo = refl; element = refl; quotient = refl; picked = refl; called = refl; no_turn = refl }

pub ruleset worked_code = (sums_have_code, pieces_follow)
