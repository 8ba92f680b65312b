use Rattle.std.proofs.Common.{◌≡◌, ◌<◌, ◌∙◌, ap, arith, length, map, get_or, sym}
use Rattle.std.proofs.lemmas.List.{get_or_default}
use Rattle.std.proofs.Math.ListN.{length-set}
use Rattle.scalar_ranges.specs.declared.slots.Change.{Change}
use Rattle.scalar_ranges.specs.Environments.{item_at}
use Rattle.scalar_ranges.specs.Changes.{meaning_after}
use Rattle.scalar_ranges.specs.ChangeViews.{slots_from, change_of}
use Rattle.scalar_ranges.proofs.SlotLoops.{same_changes, conclude_more, concluded}
use Rattle.scalar_ranges.proofs.changes.conclude.Goals as goal

pub loop-place-preserved : goal.loop-place-preserved
loop-place-preserved c =
    let changes = c.loop-place.changes in
    let place = c.loop-place.place in
    let d = c.index-changes-place.result in
    let e = c.index-changes-place-in-loop-place.result in
    let ms = map (meaning_after c.args.depth c.args.ended) (slots_from c.args.slots.now) in
    let k = get_or changes place e in
    let x : Change = record { number = k.number; before = k.before; after = c.meaning_after.result } in
    let long = c.loop-place.invariant.long in
    let less : place < length changes = omega arith in
    let same : k ≡ d = get_or_default changes place e d less ∙ sym c.index-changes-place.is in
    record {
      long = length-set changes place x ∙ long;
      same = same_changes changes place x d less c.index-changes-place.is (ap change_of same)
          ∙ c.loop-place.invariant.same;
      after = conclude_more ms changes place x d less c.index-changes-place.is (ap change_of same)
          (c.meaning_after.ensures ∙ ap (λ (j : Change). item_at j.number ms) (sym c.index-changes-place.is))
          c.loop-place.invariant.after;
    }

pub returns-clause-same : goal.returns-clause-same
returns-clause-same c = c.loop-place.invariant.same

pub returns-clause-after : goal.returns-clause-after
returns-clause-after c =
    concluded (map (meaning_after c.args.depth c.args.ended) (slots_from c.args.slots.now)) c.loop-place.changes
    c.loop-place.place (omega (arith, c.loop-place-test.false, c.loop-place.invariant.long))
    c.loop-place.invariant.after
