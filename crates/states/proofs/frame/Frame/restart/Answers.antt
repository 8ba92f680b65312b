use Rattle.states.proofs.BlockSums.{none-summed}
use Rattle.states.proofs.Leavings.{facts-cleared}
use Rattle.states.proofs.Remembering.{remembered-none}
use Rattle.states.proofs.frame.Frame.restart.Goals as goal

pub invariant_of-self-clause-loops : goal.invariant_of-self-clause-loops
invariant_of-self-clause-loops c = ∣ c.requires.loops ∣₁

pub invariant_of-self-clause-summed : goal.invariant_of-self-clause-summed
invariant_of-self-clause-summed c = none-summed _ _ c.clear-2.new.self.kept.items c.clear-2.ensures.none

pub returns-clause-facts : goal.returns-clause-facts
returns-clause-facts c =
    facts-cleared c.args.self.now.lo c.clear-2.new.self.kept.items c.args.row.now c.clear.new.self.written.items
    c.clear-2.ensures.none c.clear.ensures.empty

pub invariant_of-self-clause-compared : goal.invariant_of-self-clause-compared
invariant_of-self-clause-compared c =
    remembered-none _ _ _ _
    (facts-cleared c.args.self.now.lo c.clear-2.new.self.kept.items c.args.row.now c.clear.new.self.written.items
    c.clear-2.ensures.none c.clear.ensures.empty)
    c.restart.ensures.none c.restart.ensures.began c.restart.ensures.firsts c.restart.ensures.lefts

pub invariant_of-self-clause-added : goal.invariant_of-self-clause-added
invariant_of-self-clause-added c = c.clear-3.ensures _ _
