use Rattle.std.proofs.Common.{◌≡◌, drop}
use Rattle.states.specs.Views.{state_of}
use Rattle.found_parts.specs.Openings.{channel_fault}
use Rattle.found_parts.specs.Firsts.{first_of}
use Rattle.found_parts.proofs.openings.channels_fault.Given as goal

abbrev pub invariant-loop-channel : goal.invariant-loop-channel
invariant-loop-channel l =
    first_of (channel_fault l.«module» (state_of l.state)) l.channels
    ≡ first_of (channel_fault l.«module» (state_of l.state)) (drop l.channel-index l.channels)
