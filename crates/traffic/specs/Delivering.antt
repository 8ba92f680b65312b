-- What becomes of a message by the address that names its link or channel.
use Rattle.std.specs.Prelude.{Bool, true, false, Some, None, slice_get}
use Rattle.machine_state.specs.declared.process.Exchange.{Exchange}
use Rattle.machine_state.specs.Memory.{place_of}
use Rattle.machine_state.specs.World.{World}
use Rattle.machine_state.specs.Moves.{channel_at}
use Rattle.machine_state.specs.Turn.{Effect, ran, emitted}
use Rattle.machine_state.specs.Exchanges.{input_link, output_link, bytes_at}
use Rattle.traffic.specs.Settling.{is_complete, is_awaited, is_wanted}
use Rattle.traffic.specs.declared.messages.Delivery.{Delivery}
use Rattle.traffic.specs.declared.messages.Delivery.TheVariants.{Emitted, Received, Awaited}

-- what the instruction of a message that was sent did, which leaves this world
abbrev pub effect_of_delivery : Exchange → World → Delivery → Effect
effect_of_delivery e w (Emitted link) = emitted link (bytes_at w.memory (place_of e.address) e.length)
effect_of_delivery e w Received = ran
effect_of_delivery e w Awaited = ran

-- whether the sender goes on
abbrev pub goes_on : Delivery → Bool
goes_on (Emitted link) = false
goes_on Received = true
goes_on Awaited = false

abbrev pub sender_goes_on : Exchange → World → Bool
sender_goes_on e w = elim (output_link e.channel) [ Some k ↦ false | None ↦ is_awaited (channel_at w e.channel) ]

abbrev pub receiver_goes_on : Exchange → World → Bool
receiver_goes_on e w = elim (input_link e.channel) [
  | Some k ↦ is_complete (slice_get w.links.inputs k) e
  | None ↦ is_awaited (channel_at w e.channel)
]

-- whether receiving may make a process ready: the sender that waits at the channel
abbrev pub receiving_may_wake : Exchange → World → Bool
receiving_may_wake e w = elim (input_link e.channel) [ Some k ↦ false | None ↦ is_awaited (channel_at w e.channel) ]

-- whether sending may make a process ready: the receiver that waits at the channel, or who has enabled it
abbrev pub sending_may_wake : Exchange → World → Bool
sending_may_wake e w = elim (output_link e.channel) [ Some k ↦ false | None ↦ is_wanted (channel_at w e.channel) ]
