use Rattle.certified_scopes.proofs.Settled.{beginnings_are_settled, wordless_names_are_settled}
use Rattle.certified_scopes.proofs.Settled.{declarations_are_settled, blocks_are_settled, moved_scopes_are_settled}
use Rattle.certified_scopes.proofs.Settled.{indices_have_turns}
use Rattle.certified_scopes.proofs.Settled.{links_are_settled, bare_scopes_are_held}
use Rattle.certified_scopes.proofs.laws.scopes_are_settled.Goals as goal

pub returns-clause-beginnings : goal.returns-clause-beginnings
returns-clause-beginnings c = beginnings_are_settled

pub returns-clause-wordless : goal.returns-clause-wordless
returns-clause-wordless c = wordless_names_are_settled

pub returns-clause-declarations : goal.returns-clause-declarations
returns-clause-declarations c = declarations_are_settled

pub returns-clause-blocks : goal.returns-clause-blocks
returns-clause-blocks c = blocks_are_settled

pub returns-clause-moved : goal.returns-clause-moved
returns-clause-moved c = moved_scopes_are_settled

pub returns-clause-turns : goal.returns-clause-turns
returns-clause-turns c = indices_have_turns

pub returns-clause-links : goal.returns-clause-links
returns-clause-links c = links_are_settled

pub returns-clause-bare : goal.returns-clause-bare
returns-clause-bare c = bare_scopes_are_held
