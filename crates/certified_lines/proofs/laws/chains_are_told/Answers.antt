use Rattle.certified_lines.proofs.Chains.{first_two_tell, one_more_tells, terms_tell}
use Rattle.certified_lines.proofs.laws.chains_are_told.Goals as goal

pub returns-clause-first : goal.returns-clause-first
returns-clause-first c = first_two_tell

pub returns-clause-more : goal.returns-clause-more
returns-clause-more c = one_more_tells

pub returns-clause-whole : goal.returns-clause-whole
returns-clause-whole c = terms_tell
