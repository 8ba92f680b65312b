use Rattle.machine_state.proofs.Seeing.{steps_see_what_they_read}
use Rattle.machine_state.proofs.laws.steps_see_what_they_read.Goals as goal

pub returns : goal.returns
returns c = steps_see_what_they_read
