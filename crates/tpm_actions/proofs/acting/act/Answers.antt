use Rattle.file_access.specs.Storage.{storage_of}
use Rattle.tpm_actions.proofs.Acts.{acts_told, acts_failed}
use Rattle.tpm_actions.proofs.acting.act.Goals as goal

pub returns-in-Ok-perform : goal.returns-in-Ok-perform
returns-in-Ok-perform g c =
    acts_told (storage_of g.F.Files.calls g.F.Reader.LinkReader.left g.F.Reader.LinkReader.failed
    g.F.Writer.LinkWriter.written g.F.Writer.LinkWriter.failed)
    _ _ _ _ _ _ c.in-Ok.ensures.asked c.in-Ok-perform.field-0 c.in-Ok-perform.ensures

pub returns-in-Err-perform : goal.returns-in-Err-perform
returns-in-Err-perform g c =
    acts_failed (storage_of g.F.Files.calls g.F.Reader.LinkReader.left g.F.Reader.LinkReader.failed
    g.F.Writer.LinkWriter.written g.F.Writer.LinkWriter.failed)
    _ _ _ _ _ _ c.in-Err-perform.failure c.fail.result c.fail.ensures c.in-Ok.ensures.asked
    c.in-Err-perform.ensures
