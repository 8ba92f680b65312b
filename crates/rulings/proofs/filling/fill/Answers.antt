use Rattle.std.proofs.lemmas.Int.{to_z-of_z}
use Rattle.std.specs.Int.{w32}
use Rattle.rulings.proofs.filling.fill.Goals as goal

pub become_numbers-requires-clause-room : goal.become_numbers-requires-clause-room
become_numbers-requires-clause-room c = λ zero. record {
  each = λ k low high. c.leave_words-2.ensures.kept k
      ((c.requires.room zero).each k low (rw (to_z-of_z w32 c.args.end c.ranges.end) at high));
}

pub returns-clause-belongs : goal.returns-clause-belongs
returns-clause-belongs c = λ m belongs. c.become_numbers.ensures.belongs m (c.leave_words-2.ensures.belongs m belongs)
