-- What is compiled and then run does what its source means.
use Rattle.std.specs.Prelude.{ℕ, Bool, List}
use Rattle.module_format.specs.Contents.{Contents}
use Rattle.module_format.specs.Keeping.{Format}
use Rattle.program_meaning.specs.Meaning.{meaning}
use Rattle.program_meaning.specs.Sequential.{IsSequentialProgram}
use Rattle.link_runs.specs.ByLink.{ByLink}
use Rattle.link_runs.specs.FirstInFirstOut.{Supply, RunMoment, IsRun, IsOver}
use Rattle.meant_runs.specs.Meant.{AreBytes, IsReportOf, all_bytes_in, in_order}
use Rattle.compiler.specs.Compiled.{IsCompiled}

-- These bytes are what `compile` makes of the source of a sequential program. Wherever the run of the module that they
-- say is over, with whatever bytes to come in and wherever something listens, what was read and written and whether it
-- is finished are what the program means.
abbrev pub CompiledProgramsDoWhatTheyMean : Type 0
CompiledProgramsDoWhatTheyMean = (source bytes : List ℕ) (compiled : IsCompiled source bytes) (m : Contents)
    (inputs : ByLink Supply) (writers : ByLink Bool) (n : ℕ) (s : RunMoment) → IsSequentialProgram compiled.items
    → Format bytes m → AreBytes inputs → IsRun m inputs writers n s
    → IsOver m writers s → IsReportOf (meaning compiled.items (all_bytes_in inputs) (in_order writers)) s
