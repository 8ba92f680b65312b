use Rattle.module_format.proofs.OffsetLaws.{is_entered}
use Rattle.module_format.proofs.offsets.is_entry.Goals as goal

pub returns : goal.returns
returns c =
    rw c.is_some.ensures (is_entered (λ row. row.now) c.args.rows.now c.args.offset c.row_at.result c.row_at.ensures)
