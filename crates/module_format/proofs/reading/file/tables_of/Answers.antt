use Rattle.std.proofs.Common.{arith}
use Rattle.module_format.proofs.FileLaws.{rows_taken}
use Rattle.module_format.proofs.reading.file.tables_of.Goals as goal

pub conclude-requires : goal.conclude-requires
conclude-requires c = λ still.
    let front = c.new-from in
    let behind = c.read_header-header in
    let last = c.read_tables-tables in
    let ready =
    rows_taken c.args.bytes.now (λ i. omega (arith, c.type_inv.bytes i)) front.result behind.new.from last.new.from
    front.ensures.rest front.ensures.size behind.ensures last.ensures.takes still in
    record { fits = omega (arith, ready.0); limits = ready.1; rows = ready.2 }
