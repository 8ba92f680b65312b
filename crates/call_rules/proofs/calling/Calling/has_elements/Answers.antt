use Rattle.std.proofs.Common.{rules, ◌∙◌, ap, ℤ}
use Rattle.std.proofs.lemmas.Int.{to_z-of_z}
use Rattle.std.specs.Int.{w32}
use Rattle.certificate.specs.Runs.{has_element}
use Rattle.call_rules.specs.CallRules.{all_below}
use Rattle.call_rules.proofs.EndRuns.{run_decides}
use Rattle.call_rules.proofs.calling.Calling.has_elements.Goals as goal

pub returns : goal.returns
returns c =
    let m = c.args.self.now.place.module.now in
    let context = c.args.self.now.state.now.context in
    run_decides c.args.count c.elements_from-held.result _ c.elements_from-held.ensures
    ∙ ap (λ (z : ℤ). all_below c.args.count (has_element m context z c.args.element c.args.direction))
    (to_z-of_z w32 c.args.number (search rules))
