use Rattle.std.proofs.Common.{subst}
use Rattle.scalar_ranges.specs.ChangeViews.{changes_from}
use Rattle.scalar_ranges.specs.Deferring.{AreNone}
use Rattle.scalar_ranges.specs.LeftViews.{left_by}
use Rattle.scalar_ranges.proofs.Standing.{still_is}
use Rattle.scalar_ranges.proofs.deferred.Deferred.is_still.Goals as goal

pub returns-then-may_test : goal.returns-then-may_test
returns-then-may_test c = λ none.
    let p = left_by c.args.self.now in
    still_is p c.args.self.now.tracked.slots.items c.deref.ensures.value c.in-Some.ensures.item.3.0
    c.in-Some.ensures.item.1 c.args.self.now.tracked.tracked
    (subst (λ cs. AreNone p (changes_from cs)) c.deref-then-may_test.ensures.value (c.are_released.ensures none))
