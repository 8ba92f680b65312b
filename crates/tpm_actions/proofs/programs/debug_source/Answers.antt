use Rattle.std.proofs.Common.{ℕ, List, option_map, string_bytes, subst, sym}
use Rattle.module_format.specs.Keeping.{Format}
use Rattle.command_line.specs.Links.{paths_of}
use Rattle.file_access.specs.Storage.{storage_of}
use Rattle.compiler.specs.CodeLines.{AreLinesOf}
use Rattle.tpm_actions.specs.Programs.{lined, is_source}
use Rattle.tpm_actions.proofs.ProgramsRun.{programmed}
use Rattle.tpm_actions.proofs.programs.debug_source.Goals as goal

pub returns-in-Ok : goal.returns-in-Ok
returns-in-Ok g c =
    programmed (storage_of g.F.Files.calls g.F.Reader.LinkReader.left g.F.Reader.LinkReader.failed
    g.F.Writer.LinkWriter.written g.F.Writer.LinkWriter.failed)
    (paths_of c.args.asked.inputs) (paths_of c.args.asked.outputs)
    (option_map (λ text. text.now) c.args.asked.bytes) _ _
    (lined c.in-Ok.module c.as_slice-lines.result.now) c.args.source.now
    (is_source _ c.requires c.in_ok-file.ensures.compiled
    (subst (λ (xs : List ℕ). Format xs c.in-Ok.module) c.deref.ensures.value c.in-Ok.ensures.found)
    (subst (λ ls. AreLinesOf c.args.source.now ls) (sym c.as_slice-lines.ensures.value) c.in_ok-table.ensures)) string_bytes
    c.debug_module.result c.debug_module.ensures
