use Rattle.std.proofs.Common.{◌∙◌, sym, arith}
use Rattle.std.proofs.lemmas.Int.{ints}
use Rattle.states.specs.Views.{state_of}
use Rattle.call_rules.proofs.CallTests.{frame_is}
use Rattle.call_rules.proofs.Touching.{lent_room, lent_told}
use Rattle.call_rules.proofs.calls.leaves_lent.Goals as goal

pub change_span-requires-clause-room : goal.change_span-requires-clause-room
change_span-requires-clause-room c =
    lent_room c.args.place.now.module.now c.args.state.now c.args.state.now.context c.in-Some.lent c.args.lent _ _
    c.in-Some.is c.if-lent.true (frame_is c.in-Some.lent.region (sym c.is_frame.ensures ∙ c.if-is_frame.true))
    (omega (arith, ints)) c.word_count.ensures c.requires.belongs c.requires.own

pub returns-then-is_frame-clause-state : goal.returns-then-is_frame-clause-state
returns-then-is_frame-clause-state c =
    lent_told c.in-Some.lent c.args.lent (state_of c.args.state.now)
    (state_of c.change_span.new.self) _ _ c.leaving.result c.in-Some.is
    c.if-lent.true (frame_is c.in-Some.lent.region (sym c.is_frame.ensures ∙ c.if-is_frame.true))
    (omega (arith, ints)) c.word_count.ensures c.leaving.ensures c.change_span.ensures.state
