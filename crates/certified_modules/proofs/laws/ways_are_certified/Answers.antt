use Rattle.certified_modules.proofs.Ways as proof
use Rattle.certified_modules.proofs.laws.ways_are_certified.Goals as goal

pub returns : goal.returns
returns c = proof.ways_certify
