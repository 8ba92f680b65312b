use Rattle.placed_code.proofs.NumbersCover as proof
use Rattle.placed_code.proofs.laws.labels_keep_their_numbers.Goals as goal

pub returns-clause-bytes : goal.returns-clause-bytes
returns-clause-bytes c = proof.pieces_take_their_bytes

pub returns-clause-labels : goal.returns-clause-labels
returns-clause-labels c = proof.labels_keep_their_numbers
