use Rattle.tpm_actions.proofs.Judged.{for_path}
use Rattle.tpm_actions.proofs.acting.reply.Goals as goal

pub returns-in-Run : goal.returns-in-Run
returns-in-Run g c = rw c.in-Run.is (for_path _ _ c.outcome.result c.outcome.ensures)
