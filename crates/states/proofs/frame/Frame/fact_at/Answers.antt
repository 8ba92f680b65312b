use Rattle.std.proofs.lemmas.Int.{to_z-of_z}
use Rattle.std.specs.Int.{w64}
use Rattle.states.proofs.Loops.{room-known}
use Rattle.states.proofs.frame.Frame.fact_at.Goals as goal

pub returns-clause-room : goal.returns-clause-room
returns-clause-room c = λ known.
    let same = to_z-of_z w64 c.args.word c.ranges.word in
    room-known c.args.self.now c.args.word c.said.result (rw same at c.said.ensures.value) known
