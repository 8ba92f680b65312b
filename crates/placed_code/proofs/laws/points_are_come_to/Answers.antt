use Rattle.placed_code.proofs.PointsComeTo as proof
use Rattle.placed_code.proofs.laws.points_are_come_to.Goals as goal

pub returns : goal.returns
returns c = proof.points_are_come_to
