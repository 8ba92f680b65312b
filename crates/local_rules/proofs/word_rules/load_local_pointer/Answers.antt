use Rattle.std.proofs.Common.{rules, ◌∙◌, arith}
use Rattle.std.proofs.lemmas.Int.{ints, to_z-of_z}
use Rattle.std.proofs.lemmas.Result.{err_from_is_err_and}
use Rattle.std.specs.Int.{w32}
use Rattle.states.specs.Views.{state_of}
use Rattle.rulings.specs.Places.{site_of}
use Rattle.rulings.proofs.Steps.{advances-by}
use Rattle.local_rules.proofs.LocalSteps.{local_pointer-is, local_pointer-done}
use Rattle.local_rules.proofs.word_rules.load_local_pointer.Goals as goal

pub returns-in_err-offset-clause-ruling : goal.returns-in_err-offset-clause-ruling
returns-in_err-offset-clause-ruling c =
    let p = err_from_is_err_and c.from_residual.result c.from_residual.ensures.1 in
    rw (p.1, p.2) (local_pointer-is (site_of c.args.place.now) (state_of c.args.state.now) c.args.distance _
    (omega (arith, ints)) ∙ c.in_err-offset.ensures.test _)

pub returns-clause-ruling : goal.returns-clause-ruling
returns-clause-ruling c =
    advances-by c.goes_on.result (state_of c.goes_on.new.state) _ _
    (local_pointer-is (site_of c.args.place.now) (state_of c.args.state.now) c.args.distance _ (omega (arith, ints))
    ∙ (c.in_ok-offset.ensures.test _
    ∙ local_pointer-done (site_of c.args.place.now) (state_of c.args.state.now) (state_of c.push.new.self) _ _
    c.of.result (to_z-of_z w32 c.in_ok-offset.offset (search rules) ∙ c.in_ok-offset.ensures.offset) c.of.ensures
    c.push.ensures.state))
    c.goes_on.ensures.ruling

pub returns-clause-belongs : goal.returns-clause-belongs
returns-clause-belongs c = λ m h. c.goes_on.ensures.belongs m (c.push.ensures.belongs m h)
