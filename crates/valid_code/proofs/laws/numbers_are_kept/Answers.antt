use Rattle.valid_code.proofs.BoundsOfNumbers as bounds
use Rattle.valid_code.proofs.MovesOfNumbers as moves
use Rattle.valid_code.proofs.laws.numbers_are_kept.Goals as goal

pub returns-clause-bounds : goal.returns-clause-bounds
returns-clause-bounds c = bounds.bounds_have_numbers

pub returns-clause-moves : goal.returns-clause-moves
returns-clause-moves c = moves.moves_keep_numbers
