use Rattle.std.proofs.Common.{arith}
use Rattle.std.proofs.lemmas.Int.{ints}
use Rattle.states.specs.Frames.{frame_facts}
use Rattle.states.proofs.FrameFacts.{write-steps}
use Rattle.states.proofs.frame.Frame.write.Goals as goal

pub returns-clause-facts : goal.returns-clause-facts
returns-clause-facts c =
    let low = c.args.self.now.low in
    let high = c.args.self.now.high in
    write-steps c.args.word _ _ _ c.args.fact (frame_facts c.args.self.now) (frame_facts c.part.new.self)
    (frame_facts c.part-2.new.self) (frame_facts c.place.new.self)
    (omega (arith, ints, low, high)) (omega (arith, ints, low, high))
    (omega (arith, ints, low, high)) c.part.ensures.facts c.part-2.ensures.facts c.place.ensures.facts
