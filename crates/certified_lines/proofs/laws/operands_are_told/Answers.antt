use Rattle.certified_lines.proofs.Operands.{both_tell, operations_tell}
use Rattle.certified_lines.proofs.Arithmetic.{arithmetic_tells}
use Rattle.certified_lines.proofs.Comparing.{comparisons_tell, prefixes_tell}
use Rattle.certified_lines.proofs.laws.operands_are_told.Goals as goal

pub returns-clause-both : goal.returns-clause-both
returns-clause-both c = both_tell

pub returns-clause-operations : goal.returns-clause-operations
returns-clause-operations c = operations_tell

pub returns-clause-arithmetic : goal.returns-clause-arithmetic
returns-clause-arithmetic c = arithmetic_tells

pub returns-clause-comparisons : goal.returns-clause-comparisons
returns-clause-comparisons c = comparisons_tell

pub returns-clause-prefixes : goal.returns-clause-prefixes
returns-clause-prefixes c = prefixes_tell
