use Rattle.std.proofs.Common.{◌≤◌, length, map, arith, ◌∙◌}
use Rattle.std.proofs.lemmas.List.{take_all}
use Rattle.occam_parser.specs.Views.{expression_of}
use Rattle.scalar_ranges.specs.Scopes.{entries_of}
use Rattle.program_uses.proofs.LowestOfBoth.{lowest_of, lowest_at}
use Rattle.usage_checks.specs.EachBroken.{BreaksEach}
use Rattle.usage_checks.specs.DeclarationRules.{BreaksItem}
use Rattle.usage_checks.proofs.LowestOfMany.{lowest_start, lowest_next}
use Rattle.usage_checks.proofs.declaration_rules.fault_of_items.Goals as goal

pub loop-item-init : goal.loop-item-init
loop-item-init c = lowest_start (λ i. BreaksItem (entries_of c.args.scope.now) c.args.value_type) 1

pub loop-item-preserved : goal.loop-item-preserved
loop-item-preserved c =
    lowest_next (λ i. BreaksItem (entries_of c.args.scope.now) c.args.value_type) 1 expression_of
    c.deref-item-items.result.now c.loop-item.item-index c.item-item.result c.item-item.result (omega arith)
    c.item-item.is c.lower-found.ensures c.loop-item.invariant c.fault_of_item.ensures

pub returns : goal.returns
returns c =
    let items = c.deref-item-items.result.now in
    let done : length items ≤ c.loop-item.item-index = omega arith in
    let all = take_all c.loop-item.item-index items done ∙ c.deref-item-items.ensures.value in
    lowest_of c.lower.ensures c.fault_of_item-2.ensures
    (lowest_at (λ xs. BreaksEach (λ i. BreaksItem (entries_of c.args.scope.now) c.args.value_type) 1
    (map expression_of xs)) all c.loop-item.invariant)
