use Rattle.std.proofs.Common.{map}
use Rattle.occam_parser.specs.BlockViews.{item_of}
use Rattle.usage_checks.specs.ItemViews.{seen_outside}
use Rattle.usage_checks.proofs.FaultsInOrder.{walks_first}
use Rattle.usage_checks.proofs.ItemsWalked.{walks_program}
use Rattle.usage_checks.proofs.telling.Findings.walk_program.Goals as goal

pub returns : goal.returns
returns c =
    walks_program (map item_of c.args.items.now) (seen_outside c.args.outside.now) c.requires c.walk_items.ensures
    (walks_first c.walk_items.new.self c.tell_first.new.self (seen_outside c.walk_items.new.outside)
    c.fault_of_main.result c.tell_first.ensures.first c.tell_first.ensures.complete c.fault_of_main.ensures)
