use Rattle.certified_actions.proofs.Checked as checked
use Rattle.certified_actions.proofs.Variables as variables
use Rattle.certified_actions.proofs.laws.checked_actions_are_told.Goals as goal

pub returns-clause-actions : goal.returns-clause-actions
returns-clause-actions c = checked.checked_actions_are_ready

pub returns-clause-variables : goal.returns-clause-variables
returns-clause-variables c = variables.scopes_have_variables
