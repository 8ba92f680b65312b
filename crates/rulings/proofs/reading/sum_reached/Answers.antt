use Rattle.std.proofs.Common.{arith}
use Rattle.std.proofs.lemmas.Int.{ints}
use Rattle.rulings.proofs.ArgumentsAgree.{near_end}
use Rattle.rulings.proofs.reading.sum_reached.Goals as goal

pub words_touched-requires : goal.words_touched-requires
words_touched-requires c =
    let ends = near_end c.args.pointer.lo c.args.pointer.hi c.requires.near in
    let low = ends.0 in
    let high = ends.1 in
    let least = c.requires.small.0 in
    let most = c.requires.small.1 in
    omega (arith, ints, low, high, least, most)
