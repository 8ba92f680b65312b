use Rattle.std.proofs.Common.{rules}
use Rattle.machine_state.specs.LocalStep.{goes_on}
use Rattle.machine_state.specs.Performing.{site_of, local_of}
use Rattle.operations.proofs.Turning.{performs-by, shifts-word}
use Rattle.operations.proofs.long.shift.Goals as goal

pub returns : goal.returns
unfolding goes_on
returns g c = performs-by {S = g.row.S.Denot} g.S.LoadStore _ _ _ _ _
    (shifts-word (site_of g.S.LoadStore c.args.cpu.now) (local_of g.S.LoadStore c.args.cpu.now) c.args.op
    c.in_ok-count.count
    c.in_ok-word.word c.in_ok-count-2.count c.in_ok-count.ensures (search rules) (search rules) (search rules))
    (search rules)
