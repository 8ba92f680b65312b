use Rattle.std.proofs.Common.{rules}
use Rattle.machine_state.specs.Performing.{site_of, local_of}
use Rattle.operations.proofs.Turning.{performs-by, tested-registers}
use Rattle.operations.proofs.loops.loop_end.Goals as goal

pub returns : goal.returns
returns g c = performs-by {S = g.row.S.Denot} g.S.LoadStore _ _ _ _ _
    (tested-registers (site_of g.S.LoadStore c.args.cpu.now) (local_of g.S.LoadStore c.args.cpu.now)
    c.in_ok-distance.distance c.in_ok-block.block c.in_ok-block-2.block
    c.in_ok-distance.ensures (search rules) (search rules) (search rules))
    (search rules)
