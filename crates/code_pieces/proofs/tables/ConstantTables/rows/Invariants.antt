use Rattle.std.proofs.Common.{◌≡◌, ◌++◌, ◌+◌, ◌*◌, drop}
use Rattle.code_pieces.specs.Tables.{lists_of, value_count, table_rows_from}
use Rattle.code_pieces.proofs.tables.ConstantTables.rows.Given as goal

abbrev pub invariant-loop-table : goal.invariant-loop-table
invariant-loop-table l = record {
  rows : l.rows.items ++ table_rows_from l.start (lists_of (drop l.table-index l.table-items))
      ≡ table_rows_from 0 l.self;
  total : l.start + 4 * value_count (lists_of (drop l.table-index l.table-items)) ≡ 4 * value_count l.self;
}
