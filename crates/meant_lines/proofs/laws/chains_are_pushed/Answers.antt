use Rattle.meant_lines.proofs.Chains as proof
use Rattle.meant_lines.proofs.laws.chains_are_pushed.Goals as goal

pub returns-clause-operations : goal.returns-clause-operations
returns-clause-operations c = proof.chains_compute

pub returns-clause-truths : goal.returns-clause-truths
returns-clause-truths c = proof.truths_are_joined

pub returns-clause-first : goal.returns-clause-first
returns-clause-first c = proof.first_two_push

pub returns-clause-more : goal.returns-clause-more
returns-clause-more c = proof.one_more_pushes
