use Rattle.certificate.proofs.modules.Module.has_end.Goals as goal

pub lists_end-requires : goal.lists_end-requires
lists_end-requires c = rw c.deref.ensures.value c.in_Some-_row.ensures.kept.0.ends
