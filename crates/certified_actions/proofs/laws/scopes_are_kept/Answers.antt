use Rattle.certified_actions.proofs.Keeping as proof
use Rattle.certified_actions.proofs.laws.scopes_are_kept.Goals as goal

pub returns : goal.returns
returns c = proof.kept_numbers_hold
