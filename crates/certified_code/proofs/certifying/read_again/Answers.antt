use Rattle.std.proofs.Common.{ap}
use Rattle.module_format.specs.declared.fault.FormatFault.{FormatFault}
use Rattle.certified_code.proofs.certifying.read_again.Goals as goal

pub returns-clause-invalid : goal.returns-clause-invalid
returns-clause-invalid c = λ invalid.
    c.in-Err.ensures.refused (λ e. c.if-fault-eq-MEMORY.false (ap (λ (f : FormatFault). f.number) e))
