use Rattle.std.proofs.Common.{◌≡◌, ◌+◌, ◌*◌, ◌≤◌, take, refl, arith}
use Rattle.module_builder.specs.Limits.{branch_count}
use Rattle.module_builder.specs.Ordering.{rows_in}
use Rattle.module_builder.proofs.Numbering.{branches_more, sums_push}
use Rattle.module_builder.proofs.branches.branches_before.Goals as goal

pub loop-pair-preserved : goal.loop-pair-preserved
loop-pair-preserved c =
    let order = c.args.order.now in
    let rows = c.args.rows.now in
    let i = c.loop-pair.pair-index in
    let count = c.loop-pair.count + c.branches_of-count.result in
    let value : count ≡ branch_count (rows_in (take (i + 1) order) rows) =
    branches_more order rows i c.loop-pair.count c.branches_of-count.result count (0, 0) c.loop-pair-test.true
    c.loop-pair.invariant.value c.branches_of-count.ensures.value refl in
    let small : count ≤ 64 * (i + 1) = omega (arith, c.loop-pair.invariant.small, c.branches_of-count.ensures.small) in
    record {
      sums =
          sums_push order rows i count c.loop-pair.sums.items c.push-in-loop-pair.new.self.items
          c.loop-pair.invariant.sums value (omega (arith, small, c.requires.few, c.loop-pair-test.true))
          c.in_ok-push-2.ensures.items;
      value = value;
      small = small;
    }
