use Rattle.std.proofs.Common.{◌≡◌, drop}
use Rattle.code_pieces.specs.Tables.{lists_of, has_table}
use Rattle.code_pieces.proofs.tables.ConstantTables.has_table.Given as goal

abbrev pub invariant-loop-table : goal.invariant-loop-table
invariant-loop-table l =
    has_table (lists_of (drop l.table-index l.table-items)) l.values ≡ has_table l.self l.values
