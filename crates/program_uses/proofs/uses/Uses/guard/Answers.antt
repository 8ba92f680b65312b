use Rattle.std.proofs.Common.{ap, sym}
use Rattle.occam_parser.specs.LineViews.{guard_of}
use Rattle.scalar_ranges.specs.Scopes.{entries_of}
use Rattle.program_uses.specs.Actions.{uses_of_guard}
use Rattle.program_uses.proofs.Adding.{adds_both, adds_as}
use Rattle.program_uses.proofs.uses.Uses.guard.Goals as goal

pub returns-in-Input : goal.returns-in-Input
returns-in-Input c =
    adds_as (ap (λ g. uses_of_guard (entries_of c.args.scope.now) (guard_of g)) (sym c.in-Input.is))
    (adds_both c.read_if_any.ensures (adds_both c.use_end.ensures c.change.ensures))
