use Rattle.std.proofs.Common.{◌≡◌, ◌+◌, length, sym, arith}
use Rattle.std.proofs.lemmas.List.{length-map}
use Rattle.occam_parser.specs.OneOrMore.{as_list, one_or_more_of}
use Rattle.occam_parser.specs.Views.{expression_of}
use Rattle.occam_parser.specs.LineViews.{value_of}
use Rattle.scalar_ranges.specs.Scopes.{entries_of}
use Rattle.program_uses.proofs.LowestOfBoth.{lowest_of, lowest_at, lowest_at2}
use Rattle.usage_checks.specs.DeclarationRules.{BreaksValue, HasOtherSize}
use Rattle.usage_checks.proofs.declaration_rules.fault_of_value.Goals as goal

pub returns-in-Table : goal.returns-in-Table
returns-in-Table c =
    let items = c.in-Table.items in
    let count : 1 + c.len.result ≡ length (as_list (one_or_more_of expression_of items)) =
    omega (arith, length-map items.others.items expression_of, c.len.ensures) in
    lowest_at (λ v. BreaksValue (entries_of c.args.scope.now) c.args.value_type (value_of v)) (sym c.in-Table.is)
    (lowest_of c.lower-in-Table.ensures c.fault_of_size.ensures
    (lowest_of c.lower.ensures c.fault_of_items.ensures
    (lowest_at2 HasOtherSize c.size_in.ensures count c.other_size-counted.ensures)))

pub returns-in-Text : goal.returns-in-Text
returns-in-Text c =
    lowest_at (λ v. BreaksValue (entries_of c.args.scope.now) c.args.value_type (value_of v)) (sym c.in-Text.is)
    (lowest_of c.lower-in-Text-2.ensures c.fault_of_size-in-Text.ensures
    (lowest_of c.lower-in-Text.ensures c.no_text.ensures
    (lowest_at2 HasOtherSize c.size_in-in-Text.ensures c.len-in-Text.ensures c.other_size-counted-in-Text.ensures)))
