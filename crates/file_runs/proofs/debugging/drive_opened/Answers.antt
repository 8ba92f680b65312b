use Rattle.std.proofs.lemmas.Result.{err_from_is_err_and}
use Rattle.file_access.specs.Storage.{storage_of}
use Rattle.command_line.specs.Links.{paths_of}
use Rattle.file_runs.proofs.Driven.{breaks}
use Rattle.file_runs.proofs.debugging.drive_opened.Goals as goal

pub returns-in_err-ending-clause-drives : goal.returns-in_err-ending-clause-drives
returns-in_err-ending-clause-drives g c =
    let p = err_from_is_err_and c.from_residual.result c.from_residual.ensures.1 in
    let closing = c.close_all-unclosed.ensures in
    rw (p.1, p.2) (breaks (storage_of g.F.Files.calls g.F.Reader.LinkReader.left g.F.Reader.LinkReader.failed
    g.F.Writer.LinkWriter.written g.F.Writer.LinkWriter.failed) c.args.machine.now.contents
    (paths_of c.args.outputs) _ _ _ _ _ _ _ _ closing.0 closing.1.0 _ c.in_err-ending.ensures.drives)
