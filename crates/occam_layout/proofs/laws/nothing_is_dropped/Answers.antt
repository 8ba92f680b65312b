use Rattle.occam_layout.proofs.Whole.{source_in_pieces}
use Rattle.occam_layout.proofs.laws.nothing_is_dropped.Goals as goal

pub returns : goal.returns
returns c = source_in_pieces
