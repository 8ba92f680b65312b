-- What the laws of those who wait, of channels and of what an event writes rest on.
use Rattle.machine_state.proofs.Writing.{steps_write_own, acknowledgements_write_nothing}
use Rattle.machine_state.proofs.Waiting.{lines_are_ready, links_have_their_waiters, branches_are_counted}
use Rattle.machine_state.proofs.Waiting.{arrivals_fill_buffers}
use Rattle.machine_state.proofs.WhoStarts.{openers_are_starting}
use Rattle.machine_state.proofs.ChannelWaiters.{channels_have_their_waiters}
use Rattle.machine_state.proofs.WhoWaits.{who_waits_is_recorded}
use Rattle.machine_state.proofs.ReadyStays.{what_is_ready_stays}

pub ruleset writing = (steps_write_own, arrivals_fill_buffers, acknowledgements_write_nothing)

pub ruleset waiting = (lines_are_ready, links_have_their_waiters, branches_are_counted, openers_are_starting)

pub ruleset channels = (channels_have_their_waiters, who_waits_is_recorded, what_is_ready_stays)
