use Rattle.std.proofs.Common.{◌≡◌, ◌≤◌, drop, map, length, refl, arith}
use Rattle.std.proofs.lemmas.Result.{err_from_is_err_and}
use Rattle.std.proofs.lemmas.List.{length-map, drop_all}
use Rattle.std.specs.List.{flat_map}
use Rattle.module_format.specs.References.{list_references}
use Rattle.module_format.proofs.Loop.{mapped_item_at, references_go_on, references_end, references_are_done}
use Rattle.module_format.proofs.Loop.{length-left}
use Rattle.module_format.proofs.reading.references.list_references.Goals as goal

pub references-requires : goal.references-requires
references-requires g c =
    let T = g.T.References in
    let xs = map T.naming.view c.args.items.now in
    let here =
    mapped_item_at T.naming.view c.args.items.now c.args.items.now c.loop-item.item-index c.item-item.result refl
    c.loop-item-test.true c.item-item.is in
    omega (
      arith,
      length-left T.naming.bytes xs c.loop-item.item-index (T.naming.view c.item-item.result) here,
      c.loop-item.invariant.place,
      c.requires,
    )

pub returns-in_err-at-clause-gives : goal.returns-in_err-at-clause-gives
returns-in_err-at-clause-gives g c =
    let T = g.T.References in
    let p = err_from_is_err_and c.from_residual.result c.from_residual.ensures.1 in
    let xs = map T.naming.view c.args.items.now in
    let item = T.naming.looked c.args.context.now in
    let here =
    mapped_item_at T.naming.view c.args.items.now c.args.items.now c.loop-item.item-index c.item-item.result refl
    c.loop-item-test.true c.item-item.is in
    rw (p.1, p.2) (references_end item T.naming.bytes c.in_err-at.field-0.0 xs c.loop-item.item-index c.loop-item.at
    (T.naming.view c.item-item.result)
    (list_references item T.naming.bytes c.args.start xs) here c.in_err-at.ensures.gives c.loop-item.invariant.rest)

pub loop-item-preserved : goal.loop-item-preserved
loop-item-preserved g c =
    let T = g.T.References in
    let xs = map T.naming.view c.args.items.now in
    let item = T.naming.looked c.args.context.now in
    let i = c.loop-item.item-index in
    let x = T.naming.view c.item-item.result in
    let here =
    mapped_item_at T.naming.view c.args.items.now c.args.items.now i c.item-item.result refl c.loop-item-test.true
    c.item-item.is in
    let behind = c.in_ok-at.ensures.behind in
    let left = length-left T.naming.bytes xs i x here in
    let place = c.loop-item.invariant.place in
    record {
      rest = rw behind (references_go_on item T.naming.bytes xs i c.loop-item.at x tt
          (list_references item T.naming.bytes c.args.start xs) here c.in_ok-at.ensures.gives
          c.loop-item.invariant.rest);
      place = omega (arith, behind, left, place);
    }

pub returns-clause-gives : goal.returns-clause-gives
returns-clause-gives g c =
    let T = g.T.References in
    let xs = map T.naming.view c.args.items.now in
    let item = T.naming.looked c.args.context.now in
    let past : length xs ≤ c.loop-item.item-index = rw length-map c.loop-item-test.false in
    references_are_done item T.naming.bytes xs c.loop-item.item-index c.loop-item.at
    (list_references item T.naming.bytes c.args.start xs) past c.loop-item.invariant.rest

pub returns-clause-behind : goal.returns-clause-behind
returns-clause-behind g c =
    let T = g.T.References in
    let xs = map T.naming.view c.args.items.now in
    let past : length xs ≤ c.loop-item.item-index = rw length-map c.loop-item-test.false in
    let nothing : length (flat_map T.naming.bytes (drop c.loop-item.item-index xs)) ≡ 0 =
    rw (drop_all c.loop-item.item-index xs past) refl in
    omega (arith, c.loop-item.invariant.place, nothing)
