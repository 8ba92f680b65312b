use Rattle.certified_lines.proofs.NarrowedScopes.{changed_scopes_hold, stored_scalars_are_held, tested_scopes_hold}
use Rattle.certified_lines.proofs.laws.narrowed_scopes_are_held.Goals as goal

pub returns-clause-changed : goal.returns-clause-changed
returns-clause-changed c = changed_scopes_hold

pub returns-clause-tested : goal.returns-clause-tested
returns-clause-tested c = tested_scopes_hold

pub returns-clause-stored : goal.returns-clause-stored
returns-clause-stored c = stored_scalars_are_held
