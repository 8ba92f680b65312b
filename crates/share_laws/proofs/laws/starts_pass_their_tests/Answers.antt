use Rattle.share_laws.proofs.Prepared.{first_starts_pass, later_starts_pass, plans_are_laid_out}
use Rattle.share_laws.proofs.laws.starts_pass_their_tests.Goals as goal

pub returns-clause-first : goal.returns-clause-first
returns-clause-first c = first_starts_pass

pub returns-clause-later : goal.returns-clause-later
returns-clause-later c = later_starts_pass

pub returns-clause-plans : goal.returns-clause-plans
returns-clause-plans c = plans_are_laid_out
