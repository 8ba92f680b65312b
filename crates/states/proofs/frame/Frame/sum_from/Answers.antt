use Rattle.std.proofs.Common.{ap}
use Rattle.std.proofs.lemmas.Int.{to_z-of_z}
use Rattle.std.specs.Int.{w64}
use Rattle.states.specs.declared.blocks.Block.{Block}
use Rattle.states.specs.Frames.{frame_facts}
use Rattle.states.proofs.BlockSums.{sum-at}
use Rattle.states.proofs.frame.Frame.sum_from.Goals as goal

pub returns : goal.returns
returns c =
    sum-at (frame_facts c.args.self.now) c.args.self.now.lo c.args.word c.in_ok-number.number
    c.args.self.now.by_block.kept.items c.get.result.sum c.args.self.now.summed
    (ap (λ (b : Block). b.sum) c.get.ensures)
    (rw (to_z-of_z w64 c.args.word c.ranges.word) at c.in_ok-number.ensures.0)
