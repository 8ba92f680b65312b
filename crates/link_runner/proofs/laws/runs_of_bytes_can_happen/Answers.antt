use Rattle.link_runner.proofs.AskedBytes as asked_bytes
use Rattle.link_runner.proofs.laws.runs_of_bytes_can_happen.Goals as goal

pub returns : goal.returns
returns c = asked_bytes.runs_of_bytes_can_happen
