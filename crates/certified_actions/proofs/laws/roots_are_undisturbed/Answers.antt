use Rattle.certified_actions.proofs.Exchanging as proof
use Rattle.certified_actions.proofs.laws.roots_are_undisturbed.Goals as goal

pub returns : goal.returns
returns c = proof.roots_are_undisturbed
