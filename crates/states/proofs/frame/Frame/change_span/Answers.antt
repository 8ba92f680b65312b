use Rattle.std.proofs.Common.{arith}
use Rattle.std.proofs.lemmas.Int.{ints, to_z-of_z}
use Rattle.std.specs.Int.{w32}
use Rattle.states.specs.Frames.{frame_facts}
use Rattle.states.proofs.SpanFacts.{span-steps, span-room}
use Rattle.states.proofs.frame.Frame.change_span.Goals as goal

pub leave-requires : goal.leave-requires
leave-requires c =
    span-room c.args.self.now c.part.new.self c.part-2.new.self _ _ _ c.part.ensures.room c.part-2.ensures.room
    (omega (arith, ints)) c.requires.room

pub returns-clause-facts : goal.returns-clause-facts
returns-clause-facts c =
    span-steps c.args.first _ _ c.args.count c.args.leaving (frame_facts c.args.self.now) (frame_facts c.part.new.self)
    (frame_facts c.part-2.new.self) (frame_facts c.leave.new.self) c.requires.some (omega (arith, ints))
    (omega (arith, ints)) c.part.ensures.facts c.part-2.ensures.facts
    (rw (to_z-of_z w32 c.args.first c.ranges.first) at c.leave.ensures.facts)
