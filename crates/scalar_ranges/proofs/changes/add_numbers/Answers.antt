use Rattle.std.proofs.Common.{ap, arith, length, drop, ◌∙◌}
use Rattle.std.proofs.lemmas.List.{length-map, length-drop, length-append}
use Rattle.scalar_ranges.specs.Changes.{Change, numbers_of}
use Rattle.scalar_ranges.specs.ChangeViews.{change_of, changes_from}
use Rattle.scalar_ranges.proofs.SlotLoops.{numbers_turn}
use Rattle.scalar_ranges.proofs.changes.add_numbers.Goals as goal

pub push_reserved-requires : goal.push_reserved-requires
push_reserved-requires c =
    let changes = c.args.changes.now in
    let numbers = numbers_of (changes_from changes) in
    let i = c.loop-change.change-index in
    let seen = length-map changes change_of in
    let many = length-map (changes_from changes) (λ (k : Change). k.number) in
    let left = length-drop i numbers in
    let now = length-append c.loop-change.numbers.items (drop i numbers) in
    let all = length-append c.args.numbers.now.items numbers in
    let same = ap length c.loop-change.invariant.items in
    let room = c.loop-change.invariant.capacity in
    let enough = c.requires in
    let some = c.loop-change-test.true in
    omega arith

pub loop-change-preserved : goal.loop-change-preserved
loop-change-preserved c = record {
  items = numbers_turn c.args.changes.now c.loop-change.change-index c.change-item.result c.loop-change.numbers.items
      c.push_reserved.new.self.items _ c.loop-change-test.true c.change-item.is c.push_reserved.ensures.items
      c.loop-change.invariant.items;
  capacity = c.push_reserved.ensures.capacity ∙ c.loop-change.invariant.capacity;
}
