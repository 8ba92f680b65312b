use Rattle.std.proofs.Common.{rules, string_bytes}
use Rattle.file_access.specs.Storage.{storage_of}
use Rattle.tpm_actions.proofs.Judged.{replied, unread}
use Rattle.tpm_actions.proofs.acting.ask.Goals as goal

pub returns-in-Ok : goal.returns-in-Ok
returns-in-Ok g c =
    replied (storage_of g.F.Files.calls g.F.Reader.LinkReader.left g.F.Reader.LinkReader.failed
    g.F.Writer.LinkWriter.written g.F.Writer.LinkWriter.failed)
    c.args.bytes.now c.in-Ok.module c.in-Ok.ensures.found c.args.path.now _ _
    string_bytes c.args.question c.reply.result (c.reply.ensures c.args.path.now)

pub returns-in-Err : goal.returns-in-Err
returns-in-Err g c =
    unread (storage_of g.F.Files.calls g.F.Reader.LinkReader.left g.F.Reader.LinkReader.failed
    g.F.Writer.LinkWriter.written g.F.Writer.LinkWriter.failed) c.args.bytes.now c.args.path.now c.in-Err.fault
    (record { first = c.in-Err.ensures.exact; none = c.in-Err.ensures.refused }) _ c.args.question c.malformed.result
    c.malformed.ensures
