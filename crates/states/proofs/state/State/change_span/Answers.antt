use Rattle.std.proofs.Common.{arith}
use Rattle.std.proofs.lemmas.Int.{ints, to_z-of_z}
use Rattle.std.specs.Int.{w32}
use Rattle.states.specs.Views.{state_of}
use Rattle.states.proofs.SpanFacts.{changed-fields, span-of-room}
use Rattle.states.proofs.state.State.change_span.Goals as goal

pub change_span-requires-clause-room : goal.change_span-requires-clause-room
change_span-requires-clause-room c = span-of-room c.args.self.now _ _ _ (omega (arith, ints)) c.requires.room

pub returns-clause-state : goal.returns-clause-state
returns-clause-state c =
    changed-fields c.args.first _ c.args.count c.args.leaving (state_of c.args.self.now) c.forgets_span-self.result
    c.forgets_span-self-2.result c.forgets_span-self-3.result _ c.forgets_span-self.ensures
    c.forgets_span-self-2.ensures c.forgets_span-self-3.ensures c.change_span.ensures.facts
    (to_z-of_z w32 c.args.first c.ranges.first)
