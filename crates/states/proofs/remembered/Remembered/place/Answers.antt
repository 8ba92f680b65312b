use Rattle.std.proofs.Common.{vec_len}
use Rattle.states.proofs.Remembering.{time-there}
use Rattle.states.proofs.remembered.Remembered.place.Goals as goal

pub write-requires-clause-block : goal.write-requires-clause-block
write-requires-clause-block c =
    let kept = c.args.self.now in
    rw c.block_words.ensures.value
    (time-there (vec_len kept.firsts.words) (vec_len kept.times) c.args.index c.requires kept.timed)
