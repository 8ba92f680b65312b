use Rattle.std.proofs.Common.{map}
use Rattle.module_format.specs.Contents.{procedure_of}
use Rattle.module_format.specs.ReadingRows.{procedure_rows_at}
use Rattle.module_format.proofs.TakingLaws.{took_has}
use Rattle.module_format.proofs.ProcedureLaws.{procedures_take}
use Rattle.module_format.proofs.OffsetLaws.{rows_rise}
use Rattle.module_format.proofs.reading.procedures.read_procedure_rows.Goals as goal

pub returns-clause-rise : goal.returns-clause-rise
unfolding procedure_rows_at
returns-clause-rise c = λ still.
    let from = c.args.from.now in
    let code = c.args.code.now in
    let new = c.read_list.new.from in
    let rows = c.read_list.result.items in
    let taken = procedures_take from.size code.version code.len c.args.count from.rest.now from.fits in
    let kept =
    took_has (procedure_rows_at from.size code.version code.len c.args.count) from.failure from.rest.now
    (map procedure_of rows) new.failure new.rest.now still
    c.read_list.ensures.took taken in
    rows_rise code.len rows kept.keeps.1
