use Rattle.share_laws.proofs.GoingOn.{starters_go_on, openers_go_on, openings_can_start}
use Rattle.share_laws.proofs.laws.starters_go_on.Goals as goal

pub returns-clause-later : goal.returns-clause-later
returns-clause-later c = starters_go_on

pub returns-clause-first : goal.returns-clause-first
returns-clause-first c = openers_go_on

pub returns-clause-opened : goal.returns-clause-opened
returns-clause-opened c = openings_can_start
