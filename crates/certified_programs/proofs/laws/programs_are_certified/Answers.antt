use Rattle.certified_programs.proofs.Programs as proof
use Rattle.certified_programs.proofs.laws.programs_are_certified.Goals as goal

pub returns-clause-certified : goal.returns-clause-certified
returns-clause-certified c = proof.programs_are_certified

pub returns-clause-accepted : goal.returns-clause-accepted
returns-clause-accepted c = proof.programs_are_not_refused
