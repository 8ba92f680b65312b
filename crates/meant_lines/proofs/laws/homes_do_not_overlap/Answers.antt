use Rattle.meant_lines.proofs.Housing as proof
use Rattle.meant_lines.proofs.laws.homes_do_not_overlap.Goals as goal

pub returns-clause-declared : goal.returns-clause-declared
returns-clause-declared c = proof.declared_homes_rise

pub returns-clause-blocks : goal.returns-clause-blocks
returns-clause-blocks c = proof.blocks_rise

pub returns-clause-more : goal.returns-clause-more
returns-clause-more c = proof.more_words_rise
