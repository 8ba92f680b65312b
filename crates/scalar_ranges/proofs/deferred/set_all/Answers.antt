use Rattle.std.proofs.Common.{ap, sym, ◌∙◌}
use Rattle.scalar_ranges.specs.Lefts.{set_if, set_all}
use Rattle.scalar_ranges.proofs.LeftLists.{all_step, all_stop}
use Rattle.scalar_ranges.proofs.deferred.set_all.Goals as goal
use Rattle.scalar_ranges.proofs.deferred.set_all.Goals.{in-Some, in_default}

pub loop-change-preserved : goal.loop-change-preserved
loop-change-preserved c =
    let change = c.change-item.result in
    let mark = c.args.mark in
    all_step mark c.args.changes.now c.loop-change.change-index change c.loop-change.lefts c.match-change.lefts
    (set_all mark c.args.changes.now c.args.lefts.now) c.loop-change-test.true c.change-item.is
    (elim c.match-change.branch [
      | in-Some w ↦ w.lefts-is ∙ w.set_left.ensures
          ∙ ap (λ o. set_if mark change.number o c.loop-change.lefts) (sym w.in-Some.is)
      | in_default w ↦ w.lefts-is ∙ ap (λ o. set_if mark change.number o c.loop-change.lefts) (sym w.in_default.is)
    ])
    c.loop-change.invariant

pub returns : goal.returns
returns c =
    all_stop c.args.mark c.args.changes.now c.loop-change.change-index c.loop-change.lefts
    (set_all c.args.mark c.args.changes.now c.args.lefts.now) c.loop-change-test.false c.loop-change.invariant
