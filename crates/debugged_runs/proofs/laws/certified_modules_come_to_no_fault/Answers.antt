use Rattle.file_access.specs.Storage.{storage_of}
use Rattle.debugged_runs.proofs.WellRuns.{never_faults}
use Rattle.debugged_runs.proofs.laws.certified_modules_come_to_no_fault.Goals as goal

pub returns : goal.returns
returns g c =
    never_faults (storage_of g.F.Files.calls g.F.Reader.LinkReader.left g.F.Reader.LinkReader.failed
    g.F.Writer.LinkWriter.written g.F.Writer.LinkWriter.failed)
