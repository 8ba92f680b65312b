use Rattle.std.proofs.Common.{string_bytes, inl}
use Rattle.file_access.specs.Storage.{storage_of}
use Rattle.tpm_actions.proofs.Answered.{answered}
use Rattle.tpm_actions.proofs.acting.answer.Goals as goal

pub returns-in-Ok : goal.returns-in-Ok
returns-in-Ok g c =
    answered (storage_of g.F.Files.calls g.F.Reader.LinkReader.left g.F.Reader.LinkReader.failed
    g.F.Writer.LinkWriter.written g.F.Writer.LinkWriter.failed) _ _ _ _ _ (rw (
      c.read_path-path.ensures,
      c.read_extent-extent.ensures,
    ) at c.in-Ok.ensures)
    string_bytes c.judge.result (rw c.as_slice.ensures.value at c.judge.ensures)

pub returns-in-Err-Failed : goal.returns-in-Err-Failed
returns-in-Err-Failed g c = inl (
  c.read_path-path.ensures,
  rw (c.in-Err-Failed.field-0-is, c.read_path-path.ensures, c.read_extent-extent.ensures) at c.in-Err-Failed.ensures,
)

pub returns : goal.returns
returns g c =
    inl (rw (c.in-Err-Memory.field-0-is, c.read_path-path.ensures, c.read_extent-extent.ensures) at
    c.in-Err-Memory.ensures)
