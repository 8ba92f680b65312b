use Rattle.file_access.specs.Storage.{storage_of}
use Rattle.debugged_runs.proofs.SameRuns.{over_is_run}
use Rattle.debugged_runs.proofs.laws.debugged_runs_are_runs.Goals as goal

pub returns : goal.returns
returns g c =
    over_is_run (storage_of g.F.Files.calls g.F.Reader.LinkReader.left g.F.Reader.LinkReader.failed
    g.F.Writer.LinkWriter.written g.F.Writer.LinkWriter.failed)
