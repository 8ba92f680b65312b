use Rattle.std.proofs.Common.{length}
use Rattle.module_format.proofs.OffsetLaws.{rows_rise}
use Rattle.module_format.proofs.keeping.rows_keep.Goals as goal

pub labels_keep-requires : goal.labels_keep-requires
labels_keep-requires c =
    let t = c.args.tables.now in
    rw c.deref-then-all_keep.ensures.value
    (rows_rise (length t.code.now) t.procedures.items
    (rw c.deref.ensures.value at (c.all_keep.ensures.0 c.if-all_keep.true)))
