use Rattle.certified_scopes.proofs.Kept.{new_names_are_held, blocks_are_held, declared_names_are_held}
use Rattle.certified_scopes.proofs.Kept.{ended_loops_are_held, left_scopes_are_held}
use Rattle.certified_scopes.proofs.laws.scopes_are_held.Goals as goal

pub returns-clause-names : goal.returns-clause-names
returns-clause-names c = new_names_are_held

pub returns-clause-blocks : goal.returns-clause-blocks
returns-clause-blocks c = blocks_are_held

pub returns-clause-declared : goal.returns-clause-declared
returns-clause-declared c = declared_names_are_held

pub returns-clause-left : goal.returns-clause-left
returns-clause-left c = left_scopes_are_held

pub returns-clause-ended : goal.returns-clause-ended
returns-clause-ended c = ended_loops_are_held
