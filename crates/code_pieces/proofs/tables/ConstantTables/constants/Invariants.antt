use Rattle.std.proofs.Common.{◌≡◌, ◌++◌, drop}
use Rattle.code_pieces.specs.Tables.{lists_of, constants_of}
use Rattle.code_pieces.proofs.tables.ConstantTables.constants.Given as goal

abbrev pub invariant-loop-table : goal.invariant-loop-table
invariant-loop-table l =
    l.bytes.items ++ constants_of (lists_of (drop l.table-index l.table-items)) ≡ constants_of l.self
