use Rattle.std.proofs.Common.{arith, to_z, of_z, ◌+ℤ◌, pos}
use Rattle.std.proofs.lemmas.Int.{ints}
use Rattle.std.specs.Int.{w32}
use Rattle.states.specs.Views.{state_of}
use Rattle.rulings.proofs.ArgumentsAgree.{together_told}
use Rattle.rulings.proofs.reading.touched_together.Goals as goal

pub returns : goal.returns
returns c =
    together_told (state_of c.args.state.now).frame c.word_of_byte.result c.args.lo c.args.hi
    (to_z w32 (of_z w32 c.args.lo)) (to_z w32 (of_z w32 c.args.lo))
    (to_z w32 (of_z w32 (to_z w32 (of_z w32 c.args.hi) +ℤ pos 1))) (to_z w32 (of_z w32 c.word_of_byte.result))
    c.words_touched.result c.together.result (omega (arith, ints)) c.word_of_byte.ensures.value (omega (arith, ints))
    (omega (arith, ints)) c.words_touched.ensures (omega (arith, ints)) c.together.ensures
