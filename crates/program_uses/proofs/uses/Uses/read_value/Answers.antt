use Rattle.std.proofs.Common.{ap, sym}
use Rattle.occam_parser.specs.LineViews.{value_of}
use Rattle.scalar_ranges.specs.Scopes.{entries_of}
use Rattle.program_uses.specs.Actions.{reads_of_value}
use Rattle.program_uses.proofs.Adding.{adds_both, adds_as}
use Rattle.program_uses.proofs.uses.Uses.read_value.Goals as goal

pub returns-in-Table : goal.returns-in-Table
returns-in-Table c =
    adds_as (ap (λ v. reads_of_value (entries_of c.args.scope.now) (value_of v)) (sym c.in-Table.is))
    (adds_both c.read-in-Table.ensures c.read_items.ensures)
