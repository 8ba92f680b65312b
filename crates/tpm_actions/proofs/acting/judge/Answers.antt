use Rattle.std.proofs.Common.{string_bytes}
use Rattle.file_access.specs.Storage.{storage_of}
use Rattle.std.proofs.Common.{option_map}
use Rattle.command_line.specs.Links.{paths_of}
use Rattle.tpm_actions.proofs.Judged.{module_judged, upgrade_judged, program_judged}
use Rattle.tpm_actions.proofs.acting.judge.Goals as goal

pub returns-in-Compile : goal.returns-in-Compile
returns-in-Compile g c =
    rw c.in-Compile.is (module_judged
    (storage_of g.F.Files.calls g.F.Reader.LinkReader.left g.F.Reader.LinkReader.failed g.F.Writer.LinkWriter.written
    g.F.Writer.LinkWriter.failed) string_bytes c.args.bytes.now c.in-Compile.source.now c.in-Compile.out.now _ _
    c.compile_to_file.result c.compile_to_file.ensures)

pub returns-in-Upgrade : goal.returns-in-Upgrade
returns-in-Upgrade g c =
    rw c.in-Upgrade.is (upgrade_judged
    (storage_of g.F.Files.calls g.F.Reader.LinkReader.left g.F.Reader.LinkReader.failed g.F.Writer.LinkWriter.written
    g.F.Writer.LinkWriter.failed) string_bytes c.args.bytes.now c.in-Upgrade.path.now c.in-Upgrade.out.now _ _
    c.upgrade_to_file.result c.upgrade_to_file.ensures)

pub returns-in-Debug : goal.returns-in-Debug
returns-in-Debug g c =
    rw c.in-Debug.is (program_judged (storage_of g.F.Files.calls g.F.Reader.LinkReader.left g.F.Reader.LinkReader.failed
    g.F.Writer.LinkWriter.written g.F.Writer.LinkWriter.failed) string_bytes c.args.bytes.now c.in-Debug.path.now
    (paths_of c.in-Debug.inputs) (paths_of c.in-Debug.outputs) (option_map (λ text. text.now) c.in-Debug.limit)
    c.in-Debug.is_traced _ _ c.debug_program.result c.debug_program.ensures)
