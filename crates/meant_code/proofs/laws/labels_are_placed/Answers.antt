use Rattle.meant_code.proofs.OwnCode as code
use Rattle.meant_code.proofs.OwnPrograms as programs
use Rattle.meant_code.proofs.laws.labels_are_placed.Goals as goal

pub returns-clause-processes : goal.returns-clause-processes
returns-clause-processes c = code.processes_are_own

pub returns-clause-programs : goal.returns-clause-programs
returns-clause-programs c = programs.programs_are_own

pub returns-clause-once : goal.returns-clause-once
returns-clause-once c = programs.labels_stay_once
