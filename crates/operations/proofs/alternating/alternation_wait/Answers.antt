use Rattle.std.proofs.Common.{rules}
use Rattle.machine_state.specs.declared.fault.FaultKind.TheVariants.{NotOwn}
use Rattle.machine_state.specs.Site.{fails}
use Rattle.machine_state.specs.Performing.{site_of, local_of}
use Rattle.operations.proofs.Turning.{performs-by, waits-unscheduled}
use Rattle.operations.proofs.alternating.alternation_wait.Goals as goal

pub returns-in_err-schedulable : goal.returns-in_err-schedulable
returns-in_err-schedulable g c = performs-by {S = g.row.S.Denot} g.S.LoadStore _ _ _ _ (fails NotOwn)
    (waits-unscheduled (site_of g.S.LoadStore c.args.cpu.now) (local_of g.S.LoadStore c.args.cpu.now)
    (search rules) (search rules))
    (search rules)
