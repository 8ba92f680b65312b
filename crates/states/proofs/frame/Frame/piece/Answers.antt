use Rattle.std.proofs.lemmas.Int.{to_z-of_z}
use Rattle.std.specs.Int.{w64}
use Rattle.states.specs.Frames.{frame_facts}
use Rattle.states.proofs.BlockSums.{together-one}
use Rattle.states.proofs.frame.Frame.piece.Goals as goal

pub returns-clause-all : goal.returns-clause-all
returns-clause-all c =
    together-one (frame_facts c.args.self.now) c.args.word c.fact_at.result c.of_none.result c.with.result
    (rw (to_z-of_z w64 c.args.word c.ranges.word) at c.fact_at.ensures.value) c.of_none.ensures c.with.ensures
