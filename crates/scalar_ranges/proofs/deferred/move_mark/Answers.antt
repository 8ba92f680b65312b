use Rattle.std.proofs.Common.{ap, sym, ◌∙◌}
use Rattle.scalar_ranges.specs.Lefts.{moved_mark}
use Rattle.scalar_ranges.proofs.LeftLists.{set_is, same_is}
use Rattle.scalar_ranges.proofs.deferred.move_mark.Goals as goal

pub returns-then-number-lefts : goal.returns-then-number-lefts
returns-then-number-lefts c =
    set_is (moved_mark c.args.from c.args.to) c.args.number c.args.lefts.now c.change_mark.new.self
    c.index-lefts-number.result c.if-number-lefts.true c.index-lefts-number.is
    (c.change_mark.ensures ∙ ap (moved_mark c.args.from c.args.to) (sym c.index-lefts-number.is))

pub returns-else-number-lefts : goal.returns-else-number-lefts
returns-else-number-lefts c =
    same_is (moved_mark c.args.from c.args.to) c.args.number c.args.lefts.now c.if-number-lefts.false
