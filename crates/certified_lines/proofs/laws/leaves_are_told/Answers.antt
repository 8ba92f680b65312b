use Rattle.certified_lines.proofs.Telling.{scopes_stay, constants_tell, scalars_tell}
use Rattle.certified_lines.proofs.laws.leaves_are_told.Goals as goal

pub returns-clause-stays : goal.returns-clause-stays
returns-clause-stays c = scopes_stay

pub returns-clause-constants : goal.returns-clause-constants
returns-clause-constants c = constants_tell

pub returns-clause-scalars : goal.returns-clause-scalars
returns-clause-scalars c = scalars_tell
