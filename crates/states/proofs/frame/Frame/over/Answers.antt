use Rattle.std.proofs.Common.{sym, subst}
use Rattle.states.specs.State.{entry_fact}
use Rattle.states.specs.Rows.{LoopFits}
use Rattle.states.proofs.Loops.{loop-at}
use Rattle.states.proofs.frame.Frame.over.Goals as goal

pub returns-in-None-clause-fits : goal.returns-in-None-clause-fits
returns-in-None-clause-fits c =
    subst LoopFits (sym c.row_fact.ensures) (loop-at (entry_fact c.args.self.now.row.now) _ c.args.self.now.loops)
