use Rattle.module_format.specs.Order.{least_word}
use Rattle.certificate.proofs.RightLaws.{reads_order}
use Rattle.certificate.proofs.modules.Module.may_read_word.Goals as goal

pub is_among-requires : goal.is_among-requires
is_among-requires c = rw c.deref.ensures c.in_Some-_row.ensures.kept.0.writes

pub is_among-requires-else-is_among : goal.is_among-requires-else-is_among
is_among-requires-else-is_among c =
    rw c.deref-else-is_among.ensures (reads_order _ least_word _ c.in_Some-_row.ensures.kept.0.reads)
