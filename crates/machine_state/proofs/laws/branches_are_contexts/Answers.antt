use Rattle.machine_state.proofs.FoundContexts.{branches_are_found_alike, branches_are_contexts}
use Rattle.machine_state.proofs.laws.branches_are_contexts.Goals as goal

pub returns-clause-found : goal.returns-clause-found
returns-clause-found c = branches_are_found_alike

pub returns-clause-contexts : goal.returns-clause-contexts
returns-clause-contexts c = branches_are_contexts
