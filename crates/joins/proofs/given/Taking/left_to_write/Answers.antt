use Rattle.std.proofs.Common.{◌∙◌}
use Rattle.std.proofs.lemmas.Result.{IfOk-weaker}
use Rattle.joins.proofs.Taking.{taken_is}
use Rattle.joins.proofs.given.Taking.left_to_write.Goals as goal

pub returns : goal.returns
returns c =
    let taking = c.args.self.now in
    IfOk-weaker c.without.result _ _ (λ v e. e ∙ taken_is taking.end taking.holding.now.writes.items taking.writes.now
    taking.reads.now c.deref.result.now c.deref-2.result.now c.deref.ensures.value
    (c.deref-2.ensures.value ∙ c.in_ok-taken.ensures)) c.without.ensures
