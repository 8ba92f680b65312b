use Rattle.module_format.specs.Contents.{contents_of}
use Rattle.module_format.proofs.WritingLaws.{nothing_asked, procedures_writable, labels_writable, pars_writable}
use Rattle.module_format.proofs.writing.put_rows.Goals as goal

pub put_all-requires : goal.put_all-requires
put_all-requires c = rw c.deref.ensures.value (procedures_writable (contents_of c.args.tables.now) c.requires.rows)

pub put_all-requires-2 : goal.put_all-requires-2
put_all-requires-2 c = rw c.deref-2.ensures.value (labels_writable (contents_of c.args.tables.now) c.requires.rows)

pub put_all-requires-3 : goal.put_all-requires-3
put_all-requires-3 c = rw c.deref-3.ensures.value (pars_writable (contents_of c.args.tables.now) c.requires.rows)

pub put_all-requires-4 : goal.put_all-requires-4
put_all-requires-4 c = nothing_asked _
