use Rattle.std.proofs.Common.{ap, sym}
use Rattle.occam_parser.specs.LineViews.{action_of}
use Rattle.scalar_ranges.specs.Scopes.{entries_of}
use Rattle.program_uses.specs.Actions.{uses_of_action}
use Rattle.program_uses.specs.ActionViews.{around_of}
use Rattle.program_uses.proofs.Adding.{adds_both, adds_as}
use Rattle.program_uses.proofs.uses.Uses.act.Goals as goal

pub returns-in-Assign : goal.returns-in-Assign
returns-in-Assign c =
    adds_as (ap (λ a. uses_of_action (around_of c.args.around) (entries_of c.args.scope.now) c.args.line (action_of a))
    (sym c.in-Assign.is))
    (adds_both c.change.ensures c.read.ensures)

pub returns-in-Input : goal.returns-in-Input
returns-in-Input c =
    adds_as (ap (λ a. uses_of_action (around_of c.args.around) (entries_of c.args.scope.now) c.args.line (action_of a))
    (sym c.in-Input.is))
    (adds_both c.use_end.ensures c.change-in-Input.ensures)

pub returns-in-Output : goal.returns-in-Output
returns-in-Output c =
    adds_as (ap (λ a. uses_of_action (around_of c.args.around) (entries_of c.args.scope.now) c.args.line (action_of a))
    (sym c.in-Output.is))
    (adds_both c.use_end-in-Output.ensures c.read-in-Output.ensures)
