use Rattle.std.proofs.Common.{rules, ◌∙◌, ap, cond, eqb, Some}
use Rattle.states.proofs.SpanSums.{kept-set}
use Rattle.states.proofs.sums.Layer.set.Goals as goal

pub returns : goal.returns
returns c = λ n.
    kept-set c.reach.new.self.kept.items c.args.number n (Some c.args.sum) (search rules)
    ∙ ap (cond (eqb n c.args.number) (Some c.args.sum)) (c.reach.ensures.kept n)
