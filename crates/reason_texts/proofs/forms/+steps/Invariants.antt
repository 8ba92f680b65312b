use Rattle.std.proofs.Common.{length}
use Rattle.reason_texts.proofs.forms.+steps.Given as goal

abbrev pub decreases-past_all : goal.decreases-past_all
decreases-past_all l = length l.steps.now
