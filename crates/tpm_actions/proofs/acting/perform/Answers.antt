use Rattle.std.proofs.Common.{[], Err, string_bytes, subst}
use Rattle.command_line.specs.Words.{Text}
use Rattle.file_access.specs.Storage.{storage_of}
use Rattle.tpm_actions.specs.Acting.{Tells}
use Rattle.command_line.specs.Asked.{asked_of}
use Rattle.tpm_actions.specs.Streams.{shown_of}
use Rattle.tpm_actions.proofs.Acts.{explained_in_part, faulted_in_part, reported}
use Rattle.tpm_actions.proofs.acting.perform.Goals as goal

pub returns-in-Err-Explained : goal.returns-in-Err-Explained
returns-in-Err-Explained g c =
    explained_in_part (storage_of g.F.Files.calls g.F.Reader.LinkReader.left g.F.Reader.LinkReader.failed
    g.F.Writer.LinkWriter.written g.F.Writer.LinkWriter.failed)
    [] _ _ _ _ _ c.in-Err-Explained.refusal (string_bytes c.in-Err-Explained.text)
    c.in-Err-tell.failure (rw c.in-Err-Explained.field-0-is at c.in-Err-Explained.ensures)
    (subst (λ (text : Text). Tells (g.O.Write.contents c.args.out.now)
    (g.O.Write.contents c.tell.new.out)
    text (Err c.in-Err-tell.failure)) c.as_bytes.ensures.value c.in-Err-tell.ensures)

pub returns-in-Ok : goal.returns-in-Ok
returns-in-Ok g c =
    reported (storage_of g.F.Files.calls g.F.Reader.LinkReader.left g.F.Reader.LinkReader.failed
    g.F.Writer.LinkWriter.written g.F.Writer.LinkWriter.failed)
    [] _ _ _ _ _ (string_bytes c.in-Ok.text) c.report.result c.in-Ok.ensures
    (subst (λ (text : Text). Tells (g.O.Write.contents c.args.out.now) (g.O.Write.contents c.report.new.out)
    (shown_of (asked_of c.args.line) text) c.report.result) c.deref.ensures c.report.ensures)

pub returns-in-Err-Faulted : goal.returns-in-Err-Faulted
returns-in-Err-Faulted g c =
    faulted_in_part (storage_of g.F.Files.calls g.F.Reader.LinkReader.left g.F.Reader.LinkReader.failed
    g.F.Writer.LinkWriter.written g.F.Writer.LinkWriter.failed)
    [] _ _ _ _ _ c.in-Err-Faulted.fault.fault (string_bytes c.in-Err-Faulted.text)
    c.in-Err-report.failure (rw c.in-Err-Faulted.field-0-is at c.in-Err-Faulted.ensures)
    (subst (λ (text : Text). Tells (g.O.Write.contents c.args.out.now)
    (g.O.Write.contents c.report-in-Err-Faulted.new.out) (shown_of (asked_of c.args.line) text)
    (Err c.in-Err-report.failure)) c.deref-in-Err-Faulted.ensures c.in-Err-report.ensures)
