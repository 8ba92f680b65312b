use Rattle.std.proofs.Common.{option_map, string_bytes, refl, rules}
use Rattle.command_line.specs.Links.{paths_of}
use Rattle.file_access.specs.Storage.{storage_of}
use Rattle.tpm_actions.specs.Programs.{lined, is_module}
use Rattle.tpm_actions.proofs.ProgramsRun.{programmed}
use Rattle.tpm_actions.proofs.programs.debug_program.Goals as goal

pub returns : goal.returns
returns g c =
    programmed (storage_of g.F.Files.calls g.F.Reader.LinkReader.left g.F.Reader.LinkReader.failed
    g.F.Writer.LinkWriter.written g.F.Writer.LinkWriter.failed)
    (paths_of c.args.asked.inputs) (paths_of c.args.asked.outputs)
    (option_map (λ text. text.now) c.args.asked.bytes) _ _ (lined c.in_ok-module.module _) c.args.bytes.now
    (is_module (search rules) c.in_ok-module.ensures.found refl) string_bytes c.debug_module.result c.debug_module.ensures
