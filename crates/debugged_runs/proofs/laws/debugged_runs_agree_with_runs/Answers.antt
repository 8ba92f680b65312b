use Rattle.file_access.specs.Storage.{storage_of}
use Rattle.debugged_runs.proofs.SameRuns.{debug_agrees_with_run}
use Rattle.debugged_runs.proofs.laws.debugged_runs_agree_with_runs.Goals as goal

pub returns : goal.returns
returns g c =
    debug_agrees_with_run (storage_of g.F.Files.calls g.F.Reader.LinkReader.left g.F.Reader.LinkReader.failed
    g.F.Writer.LinkWriter.written g.F.Writer.LinkWriter.failed)
