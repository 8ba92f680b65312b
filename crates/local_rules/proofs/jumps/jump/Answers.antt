use Rattle.std.proofs.Common.{◌∙◌, sym, ap, ℕ}
use Rattle.std.proofs.lemmas.Result.{err_from_is_err_and}
use Rattle.states.specs.Views.{state_of}
use Rattle.rulings.specs.Rulings.{goes_to}
use Rattle.local_rules.specs.LocalRules.{local_rule}
use Rattle.rulings.specs.Places.{site_of}
use Rattle.rulings.proofs.Steps.{advances-by}
use Rattle.local_rules.proofs.LocalSteps.{jump-forward}
use Rattle.local_rules.proofs.jumps.jump.Goals as goal

pub returns-in_err-outside_alternation-clause-ruling : goal.returns-in_err-outside_alternation-clause-ruling
unfolding local_rule
returns-in_err-outside_alternation-clause-ruling c =
    let p = err_from_is_err_and c.from_residual.result c.from_residual.ensures.1 in
    rw (p.1, p.2) (c.in_err-outside_alternation.ensures _)

pub returns-in_err-forward-clause-ruling : goal.returns-in_err-forward-clause-ruling
returns-in_err-forward-clause-ruling c =
    let p = err_from_is_err_and c.from_residual-in_err-forward.result c.from_residual-in_err-forward.ensures.1 in
    rw (p.1, p.2) (jump-forward (site_of c.args.place.now) (state_of c.args.state.now) c.args.distance c.ranges.distance
    c.in_ok-outside_alternation.ensures ∙ c.in_err-forward.ensures _)

pub returns-clause-ruling : goal.returns-clause-ruling
returns-clause-ruling c =
    advances-by c.goes_to.result (state_of c.goes_to.new.state) _ _
    (jump-forward (site_of c.args.place.now) (state_of c.args.state.now) c.args.distance c.ranges.distance
    c.in_ok-outside_alternation.ensures
    ∙ (c.in_ok-forward.ensures _
    ∙ ap (λ (to : ℕ). goes_to (site_of c.args.place.now) to (state_of c.args.state.now)) (sym c.target.ensures)))
    c.goes_to.ensures.ruling
