use Rattle.std.proofs.Common.{arith, refl}
use Rattle.std.proofs.lemmas.Int.{ints, to_z-of_z}
use Rattle.std.specs.Int.{w64}
use Rattle.states.specs.Frames.{frame_facts}
use Rattle.states.proofs.SpanFacts.{leave-more, leave-none}
use Rattle.states.proofs.frame.Frame.leave_word.Goals as goal

pub returns-clause-facts : goal.returns-clause-facts
returns-clause-facts c =
    let same = to_z-of_z w64 c.args.word c.ranges.word in
    leave-more c.args.word c.args.word 0 1 c.args.leaving (frame_facts c.args.self.now) (frame_facts c.args.self.now)
    (frame_facts c.place.new.self) c.fact_at.result c.by_itself-said.result c.left_of.result (omega (arith, ints)) refl
    (leave-none c.args.word c.args.leaving (frame_facts c.args.self.now)) (rw same at c.fact_at.ensures.value)
    c.by_itself-said.ensures c.left_of.ensures (rw same at c.place.ensures.facts)
