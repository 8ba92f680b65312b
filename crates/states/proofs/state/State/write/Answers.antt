use Rattle.std.proofs.Common.{arith}
use Rattle.std.proofs.lemmas.Int.{ints, to_z-of_z}
use Rattle.std.specs.Int.{w32}
use Rattle.states.specs.Views.{state_of}
use Rattle.states.proofs.States.{written-fields}
use Rattle.states.proofs.state.State.write.Goals as goal

pub returns-clause-state : goal.returns-clause-state
returns-clause-state c =
    written-fields c.args.word _ _ c.args.fact
    (state_of c.args.self.now) c.forgets-self.result c.forgets-self-2.result c.forgets-self-3.result _
    c.forgets-self.ensures c.forgets-self-2.ensures c.forgets-self-3.ensures c.write.ensures.facts
    (to_z-of_z w32 c.args.word c.ranges.word) (omega (arith, ints))
