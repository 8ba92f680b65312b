use Rattle.std.proofs.Common.{ap, sym, ◌∙◌}
use Rattle.occam_parser.specs.Views.{expression_of}
use Rattle.scalar_ranges.specs.MoveLaws.{shape}
use Rattle.scalar_ranges.specs.Scopes.{entries_of}
use Rattle.scalar_ranges.proofs.MoveLaws.{shapes_stay}
use Rattle.scalar_ranges.proofs.narrowing.narrow_by.Goals as goal

pub put-requires : goal.put-requires
put-requires c =
    ap shape (sym c.in-Some.ensures)
    ∙ shapes_stay.narrowing (entries_of c.args.scope.now) (expression_of c.args.condition.now) c.args.holds
