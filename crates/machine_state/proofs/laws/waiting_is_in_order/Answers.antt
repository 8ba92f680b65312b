use Rattle.machine_state.proofs.WhoWaitsOnLinks.{who_waits_on_links_is_recorded}
use Rattle.machine_state.proofs.laws.waiting_is_in_order.Goals as goal

pub returns-clause-recorded : goal.returns-clause-recorded
returns-clause-recorded c = who_waits_on_links_is_recorded
