use Rattle.std.proofs.Common.{map, take}
use Rattle.occam_parser.specs.Views.{expression_of}
use Rattle.scalar_ranges.specs.Scopes.{entries_of}
use Rattle.program_uses.specs.Lowest.{IsLowest}
use Rattle.usage_checks.specs.EachBroken.{BreaksEach}
use Rattle.usage_checks.specs.DeclarationRules.{BreaksItem}
use Rattle.usage_checks.proofs.declaration_rules.fault_of_items.Given as goal

abbrev pub invariant-loop-item : goal.invariant-loop-item
invariant-loop-item l =
    IsLowest (BreaksEach (λ i. BreaksItem (entries_of l.scope) l.value_type) 1
    (map expression_of (take l.item-index l.item-items))) l.found
