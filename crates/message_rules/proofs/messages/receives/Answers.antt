use Rattle.std.proofs.Common.{arith}
use Rattle.std.proofs.lemmas.Int.{ints}
use Rattle.states.specs.Views.{state_of}
use Rattle.rulings.specs.Places.{site_of}
use Rattle.message_rules.proofs.MessagesTold.{received-told}
use Rattle.message_rules.proofs.messages.receives.Goals as goal

pub exchanges-requires : goal.exchanges-requires
exchanges-requires c = c.receive.ensures.belongs c.args.place.now.module.now c.requires.belongs

pub returns-clause-ruling : goal.returns-clause-ruling
returns-clause-ruling c =
    received-told c.exchanges.result (state_of c.exchanges.new.state) (site_of c.args.place.now)
    (state_of c.args.state.now) (state_of c.receive.new.state) c.args.channel c.args.message.count _
    c.args.message.buffer c.receive.ensures.state (omega (arith, ints)) c.in_ok-takes.ensures.test
    c.in_ok-over_channel.ensures c.exchanges.ensures.ruling
