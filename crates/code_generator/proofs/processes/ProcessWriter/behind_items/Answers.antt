use Rattle.std.proofs.Common.{◌≤◌, length, arith, rules}
use Rattle.code_generator.proofs.ItemsPassed.{passes_none, passes_more, passes_all}
use Rattle.code_generator.proofs.processes.ProcessWriter.behind_items.Goals as goal

pub loop-item-init : goal.loop-item-init
loop-item-init c =
    passes_none c.new-writer.result c.new-callees.result.items c.new-writer.ensures.listing c.new-writer.ensures.site
    (search rules)

pub loop-item-preserved : goal.loop-item-preserved
loop-item-preserved c =
    passes_more c.args.items.now c.loop-item.item-index c.item-item.result c.loop-item.writer c.declare_item.new.self
    c.loop-item.callees.items c.declare_item.new.callees.items (omega arith) c.item-item.is c.loop-item.invariant
    c.in_ok-declare_item.ensures.listing c.in_ok-declare_item.ensures.site c.in_ok-declare_item.ensures.callees

pub returns : goal.returns
returns c =
    let done : length c.args.items.now ≤ c.loop-item.item-index = omega arith in
    passes_all c.args.items.now c.loop-item.item-index c.loop-item.writer c.loop-item.callees done
    c.loop-item.invariant
