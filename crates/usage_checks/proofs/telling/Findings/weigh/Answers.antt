use Rattle.std.proofs.Common.{ap}
use Rattle.occam_parser.specs.BlockViews.{item_of}
use Rattle.scalar_ranges.specs.Scopes.{known_of}
use Rattle.program_uses.specs.Signatures.{signatures_of}
use Rattle.usage_checks.specs.ItemViews.{seen_outside}
use Rattle.usage_checks.specs.Sizes.{measures_of_item}
use Rattle.usage_checks.proofs.FaultsInOrder.{walks_still}
use Rattle.usage_checks.proofs.ItemsWalked.{weighed_is, walks_weighed}
use Rattle.usage_checks.proofs.telling.Findings.weigh.Goals as goal

pub returns-then-outside : goal.returns-then-outside
returns-then-outside c =
    let item = item_of c.args.item.now in
    let before = c.args.outside.now in
    let after = seen_outside (record before { scope = c.weigh_item.new.scope; weight = c.weigh_item.new.self }) in
    let k = known_of before.scope in
    walks_weighed item (seen_outside before) after c.requires
    (weighed_is item k (known_of c.weigh_item.new.scope) (signatures_of before.signatures.items) c.requires
    (ap (λ xs. measures_of_item (signatures_of xs) k.entries item) c.deref.ensures.value) c.if-outside.true
    c.weigh_item.ensures) (walks_still after c.tell_end.ensures)
