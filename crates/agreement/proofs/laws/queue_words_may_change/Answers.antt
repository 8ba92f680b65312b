use Rattle.agreement.proofs.QueueWords as proof
use Rattle.agreement.proofs.laws.queue_words_may_change.Goals as goal

pub returns : goal.returns
returns c = proof.queue_words_may_change
