use Rattle.std.proofs.lemmas.Result.{err_from_is_err_and}
use Rattle.states.specs.Views.{state_of}
use Rattle.rulings.specs.Places.{site_of}
use Rattle.rulings.proofs.Steps.{forks-by}
use Rattle.rulings.proofs.place.Place.forks_to.Goals as goal

pub returns-in_err-cost_at-clause-forks : goal.returns-in_err-cost_at-clause-forks
returns-in_err-cost_at-clause-forks c =
    let p = err_from_is_err_and c.from_residual.result c.from_residual.ensures.1 in
    rw (p.1, p.2) (λ here. forks-by (site_of c.args.self.now) c.args.to
    (state_of c.args.state.now) here _ (c.in_err-cost_at.ensures.cost c.args.self.now.module.now c.requires))

pub returns-clause-forks : goal.returns-clause-forks
returns-clause-forks c = λ here. forks-by (site_of c.args.self.now) c.args.to
    (state_of c.args.state.now) here _ (c.in_ok-cost_at.ensures.cost c.args.self.now.module.now c.requires)
