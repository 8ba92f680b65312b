use Rattle.std.proofs.Common.{pos, neg_ℤ, ◌-ℤ◌, ◌≤ℤ◌}
use Rattle.states.proofs.States.{RowsWithin}
use Rattle.states.proofs.state.room_of.Given as goal

abbrev pub invariant-loop-row : goal.invariant-loop-row
invariant-loop-row l = record {
  low : l.lo ≤ℤ neg_ℤ (pos l.tables.base);
  high : (pos l.tables.data_words -ℤ pos l.tables.base) ≤ℤ l.hi;
  rows : RowsWithin l.lo l.hi l.row-items l.row-index;
}
