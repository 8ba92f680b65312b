use Rattle.std.proofs.Common.{sym, ◌∙◌}
use Rattle.std.proofs.lemmas.Int.{to_z-of_z}
use Rattle.std.specs.Int.{w64}
use Rattle.states.specs.Frames.{frame_facts}
use Rattle.states.proofs.FrameFacts.{parted-place, parted-none}
use Rattle.states.proofs.Loops.{room-of, loop_word-apart}
use Rattle.states.proofs.frame.Frame.part.Goals as goal

pub place-requires : goal.place-requires
place-requires c = room-of c.args.self.now _ c.fact_at-fact.result c.fact_at-fact.ensures.value
    (loop_word-apart c.args.which c.fact_at-fact.result (sym c.is_loop_word.ensures ∙ c.if-is_loop_word.true))

pub returns-then-is_loop_word-clause-facts : goal.returns-then-is_loop_word-clause-facts
returns-then-is_loop_word-clause-facts c =
    let same = to_z-of_z w64 c.args.word c.ranges.word in
    parted-place c.args.which c.args.word (frame_facts c.args.self.now)
    (frame_facts c.place.new.self) c.fact_at-fact.result c.by_itself.result
    (rw same at c.fact_at-fact.ensures.value) (sym c.if-is_loop_word.true ∙ c.is_loop_word.ensures) c.by_itself.ensures
    (rw same at c.place.ensures.facts)

pub returns-else-is_loop_word-clause-facts : goal.returns-else-is_loop_word-clause-facts
returns-else-is_loop_word-clause-facts c =
    let same = to_z-of_z w64 c.args.word c.ranges.word in
    parted-none c.args.which c.args.word (frame_facts c.args.self.now) c.fact_at-fact.result
    (rw same at c.fact_at-fact.ensures.value) (sym c.if-is_loop_word.false ∙ c.is_loop_word.ensures)
