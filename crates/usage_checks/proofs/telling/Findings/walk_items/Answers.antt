use Rattle.std.proofs.Common.{◌≤◌, length, map, arith, subst, refl}
use Rattle.std.proofs.lemmas.List.{take_all}
use Rattle.occam_parser.specs.BlockViews.{item_of}
use Rattle.usage_checks.specs.ItemRules.{after_item, BreaksItem}
use Rattle.usage_checks.specs.ItemViews.{seen_outside}
use Rattle.usage_checks.proofs.FaultsInOrder.{walks_moved}
use Rattle.usage_checks.proofs.OneAfterAnother.{WalksAll, walks_further}
use Rattle.usage_checks.proofs.telling.Findings.walk_items.Goals as goal

pub loop-item-init : goal.loop-item-init
loop-item-init c =
    walks_moved c.args.self.now (seen_outside c.args.outside.now) (seen_outside c.args.outside.now) refl

pub loop-item-preserved : goal.loop-item-preserved
loop-item-preserved c =
    walks_further after_item BreaksItem item_of c.args.items.now c.loop-item.item-index c.item-item.result
    c.item-item.result (seen_outside c.args.outside.now) (omega arith) c.item-item.is c.loop-item.invariant
    c.walk_item.ensures

pub returns : goal.returns
returns c =
    let done : length c.args.items.now ≤ c.loop-item.item-index = omega arith in
    subst (λ xs. WalksAll after_item BreaksItem (map item_of xs) c.args.self.now c.loop-item.self
    (seen_outside c.args.outside.now) (seen_outside c.loop-item.outside))
    (take_all c.loop-item.item-index c.args.items.now done) c.loop-item.invariant
