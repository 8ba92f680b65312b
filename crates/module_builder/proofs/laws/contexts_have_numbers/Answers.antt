use Rattle.module_builder.proofs.NumberLaws.{procedure_has_number, branch_has_number}
use Rattle.module_builder.proofs.laws.contexts_have_numbers.Goals as goal

pub returns-clause-procedures : goal.returns-clause-procedures
returns-clause-procedures c = procedure_has_number

pub returns-clause-branches : goal.returns-clause-branches
returns-clause-branches c = branch_has_number
