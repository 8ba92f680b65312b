use Rattle.file_access.specs.Storage.{storage_of}
use Rattle.debugged_runs.proofs.WellRuns.{tells_no_fault}
use Rattle.debugged_runs.proofs.laws.sources_and_certified_modules_are_told_no_fault.Goals as goal

pub returns : goal.returns
returns g c =
    tells_no_fault (storage_of g.F.Files.calls g.F.Reader.LinkReader.left g.F.Reader.LinkReader.failed
    g.F.Writer.LinkWriter.written g.F.Writer.LinkWriter.failed)
