use Rattle.std.proofs.Common.{map, take}
use Rattle.occam_parser.specs.BlockViews.{item_of}
use Rattle.usage_checks.specs.ItemRules.{after_item, BreaksItem}
use Rattle.usage_checks.specs.ItemViews.{seen_outside}
use Rattle.usage_checks.proofs.OneAfterAnother.{WalksAll}
use Rattle.usage_checks.proofs.telling.Findings.walk_items.Given as goal

abbrev pub invariant-loop-item : goal.invariant-loop-item
invariant-loop-item l =
    WalksAll after_item BreaksItem (map item_of (take l.item-index l.items)) l.fn.self l.self
    (seen_outside l.fn.outside) (seen_outside l.outside)
