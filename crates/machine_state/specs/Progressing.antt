-- What a start changes of the open join, as the program has it.
use Rattle.machine_state.specs.declared.tagged.joining.Progress as kept
use Rattle.machine_state.specs.Roles.{Progress}
use Rattle.machine_state.specs.Views.{holding_view}

abbrev pub progress_view : kept.Progress → Progress
progress_view to = record { block = to.block; started = to.started; rest = holding_view to.rest }
