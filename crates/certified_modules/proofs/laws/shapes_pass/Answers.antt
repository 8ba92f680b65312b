use Rattle.certified_modules.proofs.Shapes as proof
use Rattle.certified_modules.proofs.laws.shapes_pass.Goals as goal

pub returns-clause-rows : goal.returns-clause-rows
returns-clause-rows c = proof.rows_pass

pub returns-clause-stops : goal.returns-clause-stops
returns-clause-stops c = proof.stops_pass

pub returns-clause-tests : goal.returns-clause-tests
returns-clause-tests c = proof.tests_pass

pub returns-clause-choices : goal.returns-clause-choices
returns-clause-choices c = proof.choices_pass

pub returns-clause-loops : goal.returns-clause-loops
returns-clause-loops c = proof.loops_pass
