use Rattle.std.proofs.Common.{rules, arith, to_z, of_z}
use Rattle.std.proofs.lemmas.Int.{ints}
use Rattle.std.specs.Int.{w32}
use Rattle.rulings.proofs.BlocksMove.{within_told}
use Rattle.rulings.proofs.filling.become_numbers.Goals as goal

pub change_span-requires-clause-room : goal.change_span-requires-clause-room
change_span-requires-clause-room c = record {
  each = λ k low high.
      let span = within_told c.args.pointer.lo c.args.end (to_z w32 (of_z w32 c.args.pointer.lo))
      (to_z w32 (of_z w32 c.args.pointer.lo)) (to_z w32 (of_z w32 c.args.end)) c.word_behind.result
      (to_z w32 (of_z w32 c.word_behind.result)) k c.words_within-count.result
      (omega (arith, ints)) c.word_behind.ensures
      (omega (arith, ints)) (omega (arith, ints)) c.words_within-count.ensures (omega (arith, ints)) low high in
      (c.requires.room (search rules)).each k span.0 span.1;
}
