use Rattle.std.proofs.Common.{arith, refl}
use Rattle.std.proofs.lemmas.Int.{ints}
use Rattle.module_format.specs.Contents.{contents_of}
use Rattle.states.proofs.States.{covered}
use Rattle.states.proofs.state.State.root.Goals as goal

pub returns-clause-belongs : goal.returns-clause-belongs
returns-clause-belongs c = record {
  kept = c.tables-tables.ensures.kept;
  is = refl;
  remembers = c.in_ok-new.ensures.same;
  room = λ n k h.
      let bounds =
      covered c.args.module.now
      (contents_of c.tables-tables.result.now) c.room_of-lo.result.0 c.room_of-lo.result.1 n k
      c.tables-tables.ensures.contents c.room_of-lo.ensures.covers h in
      let lo = c.in_ok-new.ensures.room.0 in
      let len = c.in_ok-new.ensures.room.1 in
      record {
        room = record {
          low = omega (arith, ints, bounds.0, bounds.1, lo, len);
          high = omega
              (arith, ints, bounds.0, bounds.1, lo, len);
        };
      };
}
