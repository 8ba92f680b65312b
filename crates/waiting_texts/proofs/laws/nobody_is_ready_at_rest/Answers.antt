use Rattle.waiting_texts.proofs.Resting.{nobody_ready}
use Rattle.waiting_texts.proofs.laws.nobody_is_ready_at_rest.Goals as goal

pub returns : goal.returns
returns c = nobody_ready
