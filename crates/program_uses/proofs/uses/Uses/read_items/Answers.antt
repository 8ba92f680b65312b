use Rattle.std.proofs.Common.{◌≤◌, length, arith, ap, map, ◌∙◌}
use Rattle.occam_parser.specs.Views.{expression_of}
use Rattle.scalar_ranges.specs.Scopes.{entries_of}
use Rattle.program_uses.specs.Actions.{reads_of_all}
use Rattle.program_uses.proofs.Adding.{adds_both, adds_as, gathers_none, gathers_next, gathers_all}
use Rattle.program_uses.proofs.Gathering.{item_reads, items_gathered}
use Rattle.program_uses.proofs.uses.Uses.read_items.Goals as goal

pub loop-item-init : goal.loop-item-init
loop-item-init c = gathers_none (item_reads (entries_of c.args.scope.now)) c.read.new.self

pub loop-item-preserved : goal.loop-item-preserved
loop-item-preserved c =
    gathers_next (item_reads (entries_of c.args.scope.now)) c.deref-item-items.result.now c.loop-item.item-index
    c.item-item.result c.item-item.result (omega arith) c.item-item.is c.loop-item.invariant c.read-in-loop-item.ensures

pub returns : goal.returns
returns c =
    let es = entries_of c.args.scope.now in
    let items = c.deref-item-items.result.now in
    let done : length items ≤ c.loop-item.item-index = omega arith in
    let all = items_gathered es 0 items
    ∙ ap (λ xs. reads_of_all es (map expression_of xs)) c.deref-item-items.ensures.value in
    adds_both c.read.ensures
    (adds_as all (gathers_all (item_reads es) items c.loop-item.item-index done c.loop-item.invariant))
