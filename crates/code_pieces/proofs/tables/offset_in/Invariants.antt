use Rattle.std.proofs.Common.{◌≡◌, ◌+◌, ◌*◌, drop}
use Rattle.code_pieces.specs.Laying.{offset_in}
use Rattle.code_pieces.specs.Tables.{lists_of, value_count}
use Rattle.code_pieces.proofs.tables.offset_in.Given as goal

abbrev pub invariant-loop-table : goal.invariant-loop-table
invariant-loop-table l = record {
  value : l.offset + offset_in (lists_of (drop l.table-index l.tables)) l.values
      ≡ offset_in (lists_of l.tables) l.values;
  total : l.offset + 4 * value_count (lists_of (drop l.table-index l.tables)) ≡ 4 * value_count (lists_of l.tables);
}
