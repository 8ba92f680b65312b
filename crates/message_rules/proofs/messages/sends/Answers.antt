use Rattle.std.proofs.Common.{arith}
use Rattle.std.proofs.lemmas.Int.{ints}
use Rattle.states.specs.Views.{state_of}
use Rattle.rulings.specs.Places.{site_of}
use Rattle.message_rules.proofs.MessagesTold.{sent-told}
use Rattle.message_rules.proofs.messages.sends.Goals as goal

pub returns-clause-ruling : goal.returns-clause-ruling
returns-clause-ruling c =
    sent-told c.exchanges.result (state_of c.exchanges.new.state) (site_of c.args.place.now) (state_of c.args.state.now)
    (state_of c.sum_reached.new.state) c.args.channel c.args.message.count _ c.args.message.buffer
    c.sum_reached.ensures.state (omega (arith, ints)) c.in_ok-gives.ensures c.in_ok-over_channel.ensures
    c.exchanges.ensures.ruling
