use Rattle.meant_actions.proofs.Checked as proof
use Rattle.meant_actions.proofs.laws.checked_actions_are_ready.Goals as goal

pub returns : goal.returns
returns c = proof.checked_actions_are_ready
