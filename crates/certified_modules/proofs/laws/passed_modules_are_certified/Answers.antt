use Rattle.certified_modules.proofs.ApartCertified as apart
use Rattle.certified_modules.proofs.Certifying as proof
use Rattle.certified_modules.proofs.laws.passed_modules_are_certified.Goals as goal

pub returns-clause-passed : goal.returns-clause-passed
returns-clause-passed c = proof.passed_modules_are_certified

pub returns-clause-apart : goal.returns-clause-apart
returns-clause-apart c = apart.pieces_kept_apart_are_certified
