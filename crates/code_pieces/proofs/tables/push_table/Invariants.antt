use Rattle.std.proofs.Common.{◌≡◌, ◌++◌, drop}
use Rattle.code_pieces.specs.Tables.{table_bytes}
use Rattle.code_pieces.proofs.tables.push_table.Given as goal

abbrev pub invariant-loop-value : goal.invariant-loop-value
invariant-loop-value l =
    l.bytes.items ++ table_bytes (drop l.value-index l.table) ≡ l.initial.bytes.items ++ table_bytes l.table
