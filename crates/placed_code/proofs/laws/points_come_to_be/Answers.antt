use Rattle.placed_code.proofs.PointsComeToBe as proof
use Rattle.placed_code.proofs.laws.points_come_to_be.Goals as goal

pub returns-clause-points : goal.returns-clause-points
returns-clause-points c = proof.points_come_to_be

pub returns-clause-runs : goal.returns-clause-runs
returns-clause-runs c = proof.runs_go_on
