use Rattle.std.proofs.Common.{rules, ◌∙◌, ap}
use Rattle.std.proofs.lemmas.Int.{to_z-of_z}
use Rattle.std.specs.Int.{w32}
use Rattle.states.specs.Views.{state_of}
use Rattle.rulings.specs.Rulings.{goes_on}
use Rattle.rulings.specs.Places.{site_of}
use Rattle.rulings.proofs.Steps.{advances-by}
use Rattle.local_rules.proofs.LocalSteps.{store_local-own, store_local-after}
use Rattle.local_rules.proofs.word_rules.store_local.Goals as goal

pub returns-clause-ruling : goal.returns-clause-ruling
returns-clause-ruling c =
    let fits = to_z-of_z w32 c.in_ok-word.word (search rules) in
    advances-by c.goes_on.result (state_of c.goes_on.new.state) _ _
    (store_local-own (site_of c.args.place.now) (state_of c.args.state.now) c.args.distance c.in_ok-fact.fact
    c.ranges.distance c.in_ok-fact.ensures c.in_ok-alone.ensures
    ∙ (c.in_ok-word.ensures.test _
    ∙ ap (goes_on (site_of c.args.place.now))
    (store_local-after (state_of c.args.state.now) (state_of c.write.new.self)
    (state_of c.pop.new.self) _ _ c.in_ok-fact.fact
    (fits ∙ c.in_ok-word.ensures.word) c.write.ensures.state c.pop.ensures.state)))
    c.goes_on.ensures.ruling

pub returns-clause-belongs : goal.returns-clause-belongs
returns-clause-belongs c =
    c.goes_on.ensures.belongs c.args.place.now.module.now
    (c.pop.ensures.belongs c.args.place.now.module.now
    (c.write.ensures.belongs c.args.place.now.module.now c.requires))
