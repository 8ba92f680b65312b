use Rattle.scalar_ranges.proofs.LeftLists.{set_to, same_is}
use Rattle.scalar_ranges.proofs.deferred.set_left.Goals as goal

pub returns-then-number-lefts : goal.returns-then-number-lefts
returns-then-number-lefts c = set_to c.args.left c.args.number c.args.lefts.now c.if-number-lefts.true

pub returns-else-number-lefts : goal.returns-else-number-lefts
returns-else-number-lefts c = same_is (λ l. c.args.left) c.args.number c.args.lefts.now c.if-number-lefts.false
