use Rattle.std.proofs.Common.{◌≡◌, sym, subst}
use Rattle.module_format.specs.Contents.{label_of, par_of}
use Rattle.states.specs.State.{State}
use Rattle.states.specs.Views.{state_of}
use Rattle.rulings.specs.Places.{site_of}
use Rattle.par_rules.specs.Costs.{AreCosts}
use Rattle.par_rules.specs.Finding.{found_view}
use Rattle.par_rules.specs.ParRules.{label_after, pays_labels}
use Rattle.par_rules.specs.Telling.{Starts, label_view}
use Rattle.par_rules.proofs.starts.pays_labels.Goals as goal

pub pays_knowing-requires-clause-after : goal.pays_knowing-requires-clause-after
pays_knowing-requires-clause-after c =
    subst (λ (s : State). label_view c.label_after-after.result
    ≡ label_after c.args.place.now.module.now s.mode (par_of c.args.found.now.par.now))
    (sym c.known_costs-known.ensures.left.state) c.label_after-after.ensures

pub pays_knowing-requires-clause-known : goal.pays_knowing-requires-clause-known
pays_knowing-requires-clause-known c =
    subst (λ (s : State). AreCosts c.args.place.now.module.now s (found_view c.args.found.now)
    (label_of c.args.row.now) (label_view c.label_after-after.result) c.known_costs-known.result)
    (sym c.known_costs-known.ensures.left.state) c.known_costs-known.ensures.costs

pub returns-clause-ruling : goal.returns-clause-ruling
returns-clause-ruling c =
    subst (λ (s : State). Starts c.pays_knowing.result (state_of c.pays_knowing.new.state)
    (pays_labels (site_of c.args.place.now) (found_view c.args.found.now) (label_of c.args.row.now) s))
    c.known_costs-known.ensures.left.state c.pays_knowing.ensures.ruling
