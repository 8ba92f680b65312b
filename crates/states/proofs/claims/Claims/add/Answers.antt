use Rattle.std.proofs.Common.{rules, ◌≡◌, true, is_ok}
use Rattle.states.proofs.Claimed.{claimed-more}
use Rattle.states.proofs.claims.Claims.add.Goals as goal

pub invariant_of-self-clause-right : goal.invariant_of-self-clause-right
invariant_of-self-clause-right c =
    let ok : is_ok c.push.result ≡ true = c.push.ensures.succeeds (search rules) in
    claimed-more c.args.self.now.«module».now c.args.self.now.claims.items c.push.new.self.items c.args.claim
    (rw ok at c.push.ensures.items) c.requires c.args.self.now.right
