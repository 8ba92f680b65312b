use Rattle.certificate.proofs.modules.Module.may_write_word.Goals as goal

pub is_among-requires : goal.is_among-requires
is_among-requires c = rw c.deref.ensures c.in_Some-_row.ensures.kept.0.writes
