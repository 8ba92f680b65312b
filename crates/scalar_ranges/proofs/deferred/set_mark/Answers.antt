use Rattle.std.proofs.Common.{ap, sym}
use Rattle.scalar_ranges.specs.Lefts.{with_mark}
use Rattle.scalar_ranges.proofs.LeftLists.{set_is, same_is}
use Rattle.scalar_ranges.proofs.deferred.set_mark.Goals as goal

pub returns-then-number-lefts : goal.returns-then-number-lefts
returns-then-number-lefts c =
    set_is (with_mark c.args.mark) c.args.number c.args.lefts.now _ c.index-lefts-number.result
    c.if-number-lefts.true c.index-lefts-number.is
    (ap (with_mark c.args.mark) (sym c.index-lefts-number.is))

pub returns-else-number-lefts : goal.returns-else-number-lefts
returns-else-number-lefts c =
    same_is (with_mark c.args.mark) c.args.number c.args.lefts.now c.if-number-lefts.false
