use Rattle.meant_lines.proofs.Operators as proof
use Rattle.meant_lines.proofs.Arithmetic.{arithmetic_pushes}
use Rattle.meant_lines.proofs.laws.operands_are_pushed.Goals as goal

pub returns-clause-both : goal.returns-clause-both
returns-clause-both c = proof.both_push

pub returns-clause-operations : goal.returns-clause-operations
returns-clause-operations c = proof.operations_push

pub returns-clause-arithmetic : goal.returns-clause-arithmetic
returns-clause-arithmetic c = arithmetic_pushes
