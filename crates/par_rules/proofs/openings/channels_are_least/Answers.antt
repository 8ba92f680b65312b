use Rattle.std.proofs.Common.{rules, arith, ◌≡◌, ◌∷◌, ◌∙◌}
use Rattle.std.proofs.lemmas.Int.{ints}
use Rattle.states.specs.Views.{state_of}
use Rattle.par_rules.proofs.EmptyChannels.{passed-least}
use Rattle.par_rules.proofs.openings.channels_are_least.Goals as goal

pub loop-channel-preserved : goal.loop-channel-preserved
loop-channel-preserved c =
    let here = c.in-Some.channel.now in
    let rest = c.loop-channel.rest.now in
    let split : rest ≡ here ∷ c.in-Some.later.now = search rules in
    let from = c.from-word.ensures in
    let ahead = c.if-end-word.false in
    c.loop-channel.invariant
    ∙ passed-least (state_of c.args.state.now).frame rest c.in-Some.later.now c.past_channels-rest.result.now here
    _ _ _ _ _ split (omega (arith, ints, from)) (omega (arith, ints)) (omega (arith, ints)) (omega (arith, ints))
    (omega (arith, ints, from, ahead)) c.constant_until-end.ensures.each c.past_channels-rest.ensures.same
