use Rattle.meant_lines.proofs.Expressions.{numbers_are_pushed, conditions_are_pushed, subscripts_are_pushed, tests_are_pushed}
use Rattle.meant_lines.proofs.laws.expressions_are_pushed.Goals as goal

pub returns-clause-numbers : goal.returns-clause-numbers
returns-clause-numbers c = numbers_are_pushed

pub returns-clause-conditions : goal.returns-clause-conditions
returns-clause-conditions c = conditions_are_pushed

pub returns-clause-subscripts : goal.returns-clause-subscripts
returns-clause-subscripts c = subscripts_are_pushed

pub returns-clause-tests : goal.returns-clause-tests
returns-clause-tests c = tests_are_pushed
