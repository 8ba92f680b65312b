use Rattle.std.proofs.Common.{◌∙◌, sym, ap}
use Rattle.traffic.specs.Settling.{here_in}
use Rattle.joins.specs.declared.open.Open.{Open}
use Rattle.joins.proofs.Leaving.{closes}
use Rattle.joins.proofs.ending.leave.Goals as goal

pub returns-then-seen-clause-world : goal.returns-then-seen-clause-world
returns-then-seen-clause-world c = λ m join par opened same next.
    closes (here_in m c.args.here.now) c.args.traffic.now.world c.args.opener join par c.leave_join.new.self.world
    c.close.new.traffic.world opened c.leave_join.ensures.world
    (sym (ap (λ (o : Open). o.is_last) same) ∙ c.if-seen.true)
    (c.close.ensures.world join par (ap (λ (o : Open). o.block) same) next)
