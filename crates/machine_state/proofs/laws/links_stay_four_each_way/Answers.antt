use Rattle.machine_state.proofs.LinkCounts.{links_stay_four}
use Rattle.machine_state.proofs.laws.links_stay_four_each_way.Goals as goal

pub returns : goal.returns
returns c = links_stay_four
