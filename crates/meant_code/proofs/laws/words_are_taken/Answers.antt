use Rattle.meant_code.proofs.AmongOthers as proof
use Rattle.meant_code.proofs.laws.words_are_taken.Goals as goal

pub returns-clause-taken : goal.returns-clause-taken
returns-clause-taken c = proof.words_are_taken

pub returns-clause-apart : goal.returns-clause-apart
returns-clause-apart c = proof.apart_takes_no_more
