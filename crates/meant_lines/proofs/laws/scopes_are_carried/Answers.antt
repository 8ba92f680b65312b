use Rattle.meant_lines.proofs.Leaving as leaving
use Rattle.meant_lines.proofs.Opening.{declarations_are_carried}
use Rattle.meant_lines.proofs.laws.scopes_are_carried.Goals as goal

pub returns-clause-declarations : goal.returns-clause-declarations
returns-clause-declarations c = declarations_are_carried

pub returns-clause-blocks : goal.returns-clause-blocks
returns-clause-blocks c = leaving.blocks_are_carried

pub returns-clause-outermost : goal.returns-clause-outermost
returns-clause-outermost c = leaving.outermost_are_carried

pub returns-clause-turns : goal.returns-clause-turns
returns-clause-turns c = leaving.other_turns_are_carried

pub returns-clause-beginnings : goal.returns-clause-beginnings
returns-clause-beginnings c = leaving.beginnings_are_carried

pub returns-clause-wordless : goal.returns-clause-wordless
returns-clause-wordless c = leaving.wordless_names_are_carried
