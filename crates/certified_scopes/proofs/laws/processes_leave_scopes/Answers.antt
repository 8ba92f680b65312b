use Rattle.certified_scopes.proofs.ChoicesWithin.{choices_begin_further, choices_lie_within}
use Rattle.certified_scopes.proofs.NamesKept.{names_are_kept, same_names_are_settled}
use Rattle.certified_scopes.proofs.ProcessesKeep.{indices_are_kept}
use Rattle.certified_scopes.proofs.TurnsWithin.{processes_leave_scopes_settled, turns_lie_within}
use Rattle.certified_scopes.proofs.laws.processes_leave_scopes.Goals as goal

pub returns-clause-indices : goal.returns-clause-indices
returns-clause-indices c = indices_are_kept

pub returns-clause-settled : goal.returns-clause-settled
returns-clause-settled c = processes_leave_scopes_settled

pub returns-clause-turns : goal.returns-clause-turns
returns-clause-turns c = turns_lie_within

pub returns-clause-choices : goal.returns-clause-choices
returns-clause-choices c = choices_lie_within

pub returns-clause-names : goal.returns-clause-names
returns-clause-names c = names_are_kept

pub returns-clause-same : goal.returns-clause-same
returns-clause-same c = same_names_are_settled

pub returns-clause-further : goal.returns-clause-further
returns-clause-further c = choices_begin_further
