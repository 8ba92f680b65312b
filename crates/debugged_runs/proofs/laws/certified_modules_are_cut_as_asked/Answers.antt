use Rattle.file_access.specs.Storage.{storage_of}
use Rattle.debugged_runs.proofs.WellRuns.{is_cut_as_asked}
use Rattle.debugged_runs.proofs.laws.certified_modules_are_cut_as_asked.Goals as goal

pub returns : goal.returns
returns g c =
    is_cut_as_asked (storage_of g.F.Files.calls g.F.Reader.LinkReader.left g.F.Reader.LinkReader.failed
    g.F.Writer.LinkWriter.written g.F.Writer.LinkWriter.failed)
