use Rattle.std.proofs.Common.{◌≡◌, ◌<◌, rules, arith, length, get_or}
use Rattle.std.proofs.lemmas.Int.{ints}
use Rattle.states.proofs.Claimed.{claim-at}
use Rattle.states.proofs.claims.Claims.fact_of.Goals as goal

pub returns : goal.returns
returns c =
    let claims = c.args.self.now.claims.items in
    let claim = c.index-claim.result.now in
    let at = c.in_ok-at.at in
    let low : at < length claims = search rules in
    let is : claim ≡ get_or claims at claim = search rules in
    claim-at c.args.self.now.«module».now claims at claim claim c.args.label c.args.first c.args.end
    c.args.self.now.right low is (search rules) (search (rules, arith, ints)) (search (rules, arith, ints))
