use Rattle.meant_actions.proofs.Exchanging as proof
use Rattle.meant_actions.proofs.laws.undisturbed_frames_carry.Goals as goal

pub returns : goal.returns
returns c = proof.roots_are_undisturbed
