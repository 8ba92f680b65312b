use Rattle.std.proofs.Common.{◌≡◌, ◌≤◌, ◌++◌, ◌∷◌, [], length, map, pos, arith, ap, ◌∙◌}
use Rattle.std.specs.Prelude.{unwrap_or}
use Rattle.occam_parser.specs.Expressions.{Expression}
use Rattle.occam_parser.specs.Views.{expression_of}
use Rattle.scalar_ranges.specs.Scopes.{entries_of}
use Rattle.scalar_ranges.specs.Types.{type_of_values}
use Rattle.program_uses.specs.Constants.{value_as}
use Rattle.line_pieces.proofs.NamesTold.{values_next, values_done}
use Rattle.line_pieces.proofs.declaring.item_values.Goals as goal

pub loop-item-preserved : goal.loop-item-preserved
loop-item-preserved c =
    let value = λ (e : Expression). unwrap_or
    (value_as (entries_of c.args.scope.now) (type_of_values c.args.value_type) e) (pos 0) in
    values_next value expression_of c.deref-item-items.result.now c.loop-item.item-index c.item-item.result
    c.push_item.new.values.items c.loop-item.values.items c.push_item-in-loop-item.new.values.items (omega arith)
    c.item-item.is c.loop-item.invariant c.in_ok-push_item-2.ensures

pub returns : goal.returns
returns c =
    let value = λ (e : Expression). unwrap_or
    (value_as (entries_of c.args.scope.now) (type_of_values c.args.value_type) e) (pos 0) in
    let items = c.deref-item-items.result.now in
    let done : length items ≤ c.loop-item.item-index = omega arith in
    let first : c.push_item.new.values.items ≡ value (expression_of c.args.items.now.first) ∷ [] =
    c.in_ok-push_item.ensures
    ∙ ap (λ l. l ++ value (expression_of c.args.items.now.first) ∷ []) c.new-values.ensures.items in
    values_done value expression_of items c.loop-item.item-index c.push_item.new.values.items c.loop-item.values.items
    done c.loop-item.invariant
    ∙ ap (λ l. l ++ map value (map expression_of items)) first
    ∙ ap (λ xs. value (expression_of c.args.items.now.first) ∷ map value (map expression_of xs))
    c.deref-item-items.ensures.value
