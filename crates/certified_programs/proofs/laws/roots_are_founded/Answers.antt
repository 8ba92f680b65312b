use Rattle.certified_programs.proofs.Foundations as proof
use Rattle.certified_programs.proofs.laws.roots_are_founded.Goals as goal

pub returns-clause-roots : goal.returns-clause-roots
returns-clause-roots c = proof.root_settings_are_roots

pub returns-clause-founded : goal.returns-clause-founded
returns-clause-founded c = proof.roots_are_founded
