use Rattle.std.proofs.Common.{arith}
use Rattle.std.proofs.lemmas.Int.{ints}
use Rattle.states.specs.Views.{state_of}
use Rattle.call_rules.proofs.Touching.{own_again, after_context, returned_told}
use Rattle.call_rules.proofs.calls.has_returned.Goals as goal

pub leaves_each-requires-clause-own : goal.leaves_each-requires-clause-own
leaves_each-requires-clause-own c =
    own_again c.args.place.now.module.now _ _ _ _
    (after_context _ (state_of c.args.state.now) (state_of c.change_span.new.self) c.change_span.ensures.state)
    c.deref.ensures.0 c.requires.own

pub returns-clause-state : goal.returns-clause-state
returns-clause-state c =
    returned_told (state_of c.args.state.now) (state_of c.change_span.new.self) (state_of c.leaves_each.new.state)
    c.of_empty-state.result c.args.touched.now.first _ c.args.touched.now.count _ c.args.touched.now.lent.items
    c.change_span.ensures.state c.leaves_each.ensures.state c.of_empty-state.ensures
    (omega (arith, ints)) c.deref.ensures.0
