use Rattle.std.proofs.Common.{◌≡◌, take, fold, map, option_map}
use Rattle.word_arithmetic.specs.Range.{ends_of}
use Rattle.occam_parser.specs.Views.{expression_of}
use Rattle.scalar_ranges.specs.Scopes.{entries_of}
use Rattle.scalar_ranges.specs.Types.{type_of_values}
use Rattle.program_uses.specs.Constants.{value_as}
use Rattle.program_uses.specs.Declaring.{with_value}
use Rattle.program_uses.proofs.declaring.range_of_items.Given as goal

abbrev pub invariant-loop-item : goal.invariant-loop-item
invariant-loop-item l =
    option_map ends_of l.range
    ≡ fold (λ range e. with_value range (value_as (entries_of l.scope) (type_of_values l.fn.value_type) e))
    (option_map ends_of l.initial.range)
    (map expression_of (take l.item-index l.item-items))
