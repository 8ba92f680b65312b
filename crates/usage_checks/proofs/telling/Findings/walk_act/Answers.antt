use Rattle.occam_parser.specs.LineViews.{action_of}
use Rattle.program_uses.specs.Signatures.{signatures_of}
use Rattle.usage_checks.specs.ActionRules.{BreaksAction}
use Rattle.usage_checks.specs.Following.{after_action}
use Rattle.usage_checks.specs.NameRules.{with_entries}
use Rattle.program_uses.specs.Telling.{At}
use Rattle.usage_checks.proofs.FaultsInOrder.{walks_both}
use Rattle.usage_checks.proofs.telling.Findings.walk_act.Goals as goal

pub returns : goal.returns
returns c =
    let signatures = signatures_of c.args.site.around.signatures.now in
    let action = action_of c.args.action.now in
    walks_both (with_entries (after_action signatures action))
    (λ k. At c.args.line (BreaksAction c.args.site.position signatures k.entries action)) c.walk_passing.ensures
    c.walk_action.ensures
