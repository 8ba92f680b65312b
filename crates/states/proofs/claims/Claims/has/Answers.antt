use Rattle.std.proofs.Common.{◌≡◌, ◌<◌, rules, length, get_or}
use Rattle.states.proofs.Claimed.{claimed-plain}
use Rattle.states.proofs.claims.Claims.has.Goals as goal

pub returns : goal.returns
returns c = λ same t found.
    let claims = c.args.self.now.claims.items in
    let claim = c.index-claim.result.now in
    let at = c.in-Some.at in
    let low : at < length claims = search rules in
    let is : claim ≡ get_or claims at claim = search rules in
    claimed-plain c.args.self.now.«module».now claims at claim claim c.args.label c.args.self.now.right low is
    (search rules) t found
