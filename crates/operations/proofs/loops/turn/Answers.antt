use Rattle.std.proofs.Common.{rules}
use Rattle.machine_state.specs.declared.fault.FaultKind.TheVariants.{OutsideCode}
use Rattle.machine_state.specs.Site.{fails}
use Rattle.machine_state.specs.Performing.{site_of, local_of}
use Rattle.operations.proofs.Turning.{performs-by, turns-outside}
use Rattle.operations.proofs.loops.turn.Goals as goal

pub returns-in_err-to : goal.returns-in_err-to
returns-in_err-to g c = performs-by {S = g.row.S.Denot} g.S.LoadStore _ _ _ _ (fails OutsideCode)
    (turns-outside (site_of g.S.LoadStore c.args.cpu.now) (local_of g.S.LoadStore c.args.cpu.now)
    c.args.distance c.args.block c.args.index c.args.count (search rules) (search rules))
    (search rules)
