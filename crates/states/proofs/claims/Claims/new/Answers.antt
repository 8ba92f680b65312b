use Rattle.states.proofs.Claimed.{none-claimed}
use Rattle.states.proofs.claims.Claims.new.Goals as goal

pub invariant_of-result-clause-right : goal.invariant_of-result-clause-right
invariant_of-result-clause-right c =
    none-claimed c.args.module.now c.in_ok-claims.claims.items c.in_ok-claims.ensures.items
