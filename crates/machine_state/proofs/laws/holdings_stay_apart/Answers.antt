use Rattle.machine_state.proofs.ApartLaws.{holdings_stay_apart}
use Rattle.machine_state.proofs.laws.holdings_stay_apart.Goals as goal

pub returns : goal.returns
returns c = holdings_stay_apart
