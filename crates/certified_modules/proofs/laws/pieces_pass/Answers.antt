use Rattle.certified_modules.proofs.PassingLaws as proof
use Rattle.certified_modules.proofs.laws.pieces_pass.Goals as goal

pub returns-clause-more : goal.returns-clause-more
returns-clause-more c = proof.more_labels_may_be_open

pub returns-clause-apart : goal.returns-clause-apart
returns-clause-apart c = proof.pieces_pass_apart
