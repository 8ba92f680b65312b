use Rattle.machine_state.proofs.WhoEnabled.{who_enabled_alternates}
use Rattle.machine_state.proofs.WhatIsEnabled.{who_may_wait_has_nothing_ready}
use Rattle.machine_state.proofs.EnabledIsHeld.{who_enabled_holds}
use Rattle.machine_state.proofs.laws.channels_are_in_order.Goals as goal

pub returns-clause-enabled : goal.returns-clause-enabled
returns-clause-enabled c = who_enabled_alternates

pub returns-clause-quiet : goal.returns-clause-quiet
returns-clause-quiet c = who_may_wait_has_nothing_ready

pub returns-clause-held : goal.returns-clause-held
returns-clause-held c = who_enabled_holds
