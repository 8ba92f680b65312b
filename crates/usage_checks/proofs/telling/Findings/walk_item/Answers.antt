use Rattle.occam_parser.specs.BlockViews.{item_of}
use Rattle.usage_checks.specs.ItemRules.{after_walk, BreaksWalk}
use Rattle.usage_checks.proofs.FaultsInOrder.{walks_both}
use Rattle.usage_checks.proofs.telling.Findings.walk_item.Goals as goal

pub returns : goal.returns
returns c =
    walks_both (after_walk (item_of c.args.item.now)) (BreaksWalk (item_of c.args.item.now))
    c.weigh_unless_ended.ensures c.walk_weighed.ensures
