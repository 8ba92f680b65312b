use Rattle.std.proofs.Common.{rules, ◌∙◌, ap}
use Rattle.std.proofs.lemmas.Int.{to_z-of_z}
use Rattle.std.proofs.lemmas.Result.{err_from_is_err_and}
use Rattle.std.specs.Int.{w32}
use Rattle.states.specs.Views.{state_of}
use Rattle.rulings.specs.Rulings.{goes_on}
use Rattle.rulings.specs.Places.{site_of}
use Rattle.rulings.proofs.Steps.{advances-by}
use Rattle.local_rules.proofs.LocalSteps.{load_local-own, load_local-after}
use Rattle.local_rules.proofs.word_rules.load_local.Goals as goal

pub returns-in_err-word-clause-ruling : goal.returns-in_err-word-clause-ruling
returns-in_err-word-clause-ruling c =
    let p = err_from_is_err_and c.from_residual-in_err-word.result c.from_residual-in_err-word.ensures.1 in
    rw (p.1, p.2) (load_local-own (site_of c.args.place.now) (state_of c.args.state.now) c.args.distance
    c.ranges.distance c.in_ok-outside_starts.ensures ∙ c.in_err-word.ensures.test _)

pub returns-clause-ruling : goal.returns-clause-ruling
returns-clause-ruling c =
    let fits = to_z-of_z w32 c.in_ok-word.word (search rules) in
    advances-by c.goes_on.result (state_of c.goes_on.new.state) _ _
    (load_local-own (site_of c.args.place.now) (state_of c.args.state.now) c.args.distance c.ranges.distance
    c.in_ok-outside_starts.ensures
    ∙ (c.in_ok-word.ensures.test _
    ∙ ap (goes_on (site_of c.args.place.now))
    (load_local-after (state_of c.args.state.now)
    (state_of c.push.new.self) _ _ c.fact_at-fact.result c.word_as_known.result
    (fits ∙ c.in_ok-word.ensures.word) c.fact_at-fact.ensures.value c.word_as_known.ensures c.push.ensures.state)))
    c.goes_on.ensures.ruling

pub returns-clause-belongs : goal.returns-clause-belongs
returns-clause-belongs c =
    c.goes_on.ensures.belongs c.args.place.now.module.now
    (c.push.ensures.belongs c.args.place.now.module.now c.requires)
