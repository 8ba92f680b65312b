-- What is true of the fields between two moves.
use Rattle.std.specs.Prelude.{◌≡◌, ℕ, Bool, length, List, Option}
use Rattle.std.specs.List.{All}
use Rattle.machine_state.specs.declared.process.Channel.{Channel}
use Rattle.machine_state.specs.declared.process.Task.{Task}
use Rattle.machine_state.specs.declared.link.InputLink.{InputLink}
use Rattle.machine_state.specs.declared.link.OutputLink.{OutputLink}
use Rattle.traffic.specs.declared.opened.OpenedCells.{OpenedCells}
use Rattle.traffic.specs.EnabledCounts.{AreCounts, AreAll}
use Rattle.traffic.specs.Moment.{IsSteady}
use Rattle.traffic.specs.OpenedCells.{AreListed}

pub record IsSound (tasks : List Task) (inputs : List InputLink) (outputs : List OutputLink)
    (channels : List (Option Channel)) (counts : List ℕ) (are_all_counted : Bool) (opened : OpenedCells)
    : Type 0 where
  pub steady : All IsSteady tasks
  pub four_inputs : length inputs ≡ 4
  pub four_outputs : length outputs ≡ 4
  pub counted : AreCounts counts inputs channels
  pub all : AreAll are_all_counted counts inputs channels
  pub listed : AreListed opened channels
