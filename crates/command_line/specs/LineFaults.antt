-- When a command line asks for nothing.
use Rattle.std.specs.Prelude.{◌≡◌, ◌≢◌, ⊤, List, None}
use Rattle.clap.specs.Values.{kind_of}
use Rattle.clap.specs.declared.error.Error.{Error}
use Rattle.clap.specs.declared.error.kind.ErrorKind.TheVariants.{OutOfMemory}
use Rattle.command_line.specs.declared.lines.LineFault.{LineFault}
use Rattle.command_line.specs.declared.lines.LineFault.TheVariants as faults
use Rattle.command_line.specs.Words.{Text}
use Rattle.command_line.specs.CommandLine.{line_of}

-- the fault that an error of the parser is
abbrev pub FaultOf : Error → LineFault → Type 0
FaultOf error faults.Memory = kind_of error ≡ OutOfMemory
FaultOf error (faults.Misfit misfit) = ⊥
FaultOf error (faults.Usage shown) = (shown.error ≡ error) × (kind_of error ≢ OutOfMemory)

-- The words ask for nothing, unless memory ran out.
abbrev pub IsFaultAt : List Text → LineFault → Type 0
IsFaultAt words faults.Memory = ⊤
IsFaultAt words (faults.Usage shown) = line_of words ≡ None
IsFaultAt words (faults.Misfit misfit) = line_of words ≡ None
