-- The run that a host's machine holds.
use Rattle.std.specs.Prelude.{Option}
use Rattle.accepted_runs.specs.Running.{PlainExecution}
use Rattle.kept_runs.specs.declared.host_machine.HostMachine.{HostMachine}

-- the run that is loaded, if one is
abbrev pub held_in : HostMachine → Option PlainExecution
held_in machine = machine.handle.held
