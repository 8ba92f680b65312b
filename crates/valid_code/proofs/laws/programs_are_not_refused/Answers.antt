use Rattle.valid_code.proofs.Refused.{programs_are_made, programs_are_not_refused}
use Rattle.valid_code.proofs.laws.programs_are_not_refused.Goals as goal

pub returns-clause-refused : goal.returns-clause-refused
returns-clause-refused c = programs_are_not_refused

pub returns-clause-made : goal.returns-clause-made
returns-clause-made c = programs_are_made
