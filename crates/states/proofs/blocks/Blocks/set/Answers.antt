use Rattle.std.proofs.Common.{rules, ◌∙◌, ap, cond, eqb}
use Rattle.states.proofs.BlockSums.{kept-set}
use Rattle.states.proofs.blocks.Blocks.set.Goals as goal

pub returns-clause-kept : goal.returns-clause-kept
returns-clause-kept c = λ n.
    kept-set c.reach.new.self.kept.items c.args.number n c.args.block (search rules)
    ∙ ap (cond (eqb n c.args.number) c.args.block) (c.reach.ensures.kept n)
