use Rattle.std.proofs.Common.{rules}
use Rattle.machine_state.specs.LocalStep.{holds}
use Rattle.machine_state.proofs.Scheduling.{schedules-is}
use Rattle.operations.proofs.Turning.{performs-by}
use Rattle.operations.proofs.loops.test_block.Goals as goal

pub returns : goal.returns
unfolding holds
returns g c = performs-by {S = g.row.S.Denot} g.S.LoadStore _ _ _ _ _ (search (rules, schedules-is))
    c.turn_block.ensures
