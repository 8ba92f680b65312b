-- A run has one last moment, and at that the module does what the program means.
use Rattle.std.proofs.Common.{subst}
use Rattle.program_meaning.specs.Meaning.{meaning}
use Rattle.link_runs.proofs.OneRun.{one_last}
use Rattle.meant_runs.specs.Meant.{IsReportOf, all_bytes_in, in_order}
use Rattle.compiled_runs.specs.CompiledRuns.{CompiledProgramsDoWhatTheyMean}

pub compiled_programs_do_what_they_mean : CompiledProgramsDoWhatTheyMean
compiled_programs_do_what_they_mean source bytes compiled m inputs writers n s sequential format are run over =
    let meant = compiled.generated.is_meant sequential m format inputs writers are in
    subst (IsReportOf (meaning compiled.items (all_bytes_in inputs) (in_order writers)))
    (one_last m inputs writers meant.turns n meant.last s meant.run meant.over run over) meant.report
