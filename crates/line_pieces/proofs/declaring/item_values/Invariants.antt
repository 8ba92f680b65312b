use Rattle.std.proofs.Common.{◌≡◌, map, take, ◌++◌}
use Rattle.occam_parser.specs.Views.{expression_of}
use Rattle.scalar_ranges.specs.Scopes.{entries_of}
use Rattle.line_pieces.specs.Declarations.{item_values}
use Rattle.line_pieces.proofs.declaring.item_values.Given as goal

abbrev pub invariant-loop-item : goal.invariant-loop-item
invariant-loop-item l =
    l.values.items
    ≡ l.initial.values.items
    ++ item_values (entries_of l.scope) l.fn.value_type (map expression_of (take l.item-index l.item-items))
