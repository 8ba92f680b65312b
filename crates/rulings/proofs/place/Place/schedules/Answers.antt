use Rattle.std.proofs.Common.{rules, ◌∙◌, sym, ap, subst, ℤ}
use Rattle.std.proofs.lemmas.Int.{to_z-of_z}
use Rattle.std.proofs.lemmas.Result.{err_from_is_err_and}
use Rattle.std.specs.Int.{w32}
use Rattle.states.specs.Views.{state_of, CanWrite}
use Rattle.rulings.specs.Rulings.{schedules}
use Rattle.rulings.proofs.Steps.{scheduled}
use Rattle.rulings.proofs.place.Place.schedules.Goals as goal

pub returns-in_err-third-clause-test : goal.returns-in_err-third-clause-test
unfolding schedules
returns-in_err-third-clause-test c =
    let p = err_from_is_err_and c.from_residual-in_err-third.result c.from_residual-in_err-third.ensures.1 in
    rw (p.1, p.2) (λ k. c.in_ok-first.ensures.test _ ∙ (c.in_ok-second.ensures.test _ ∙ c.in_err-third.ensures.test _))

pub write-requires-2 : goal.write-requires-2
write-requires-2 c =
    subst (λ (z : ℤ). CanWrite c.write.new.self z) (sym (to_z-of_z w32 c.in_ok-second.second (search rules)))
    (c.write.ensures.room c.in_ok-second.second c.in_ok-second.ensures.room)

pub write-requires-3 : goal.write-requires-3
write-requires-3 c =
    subst (λ (z : ℤ). CanWrite c.write-2.new.self z) (sym (to_z-of_z w32 c.in_ok-third.third (search rules)))
    (c.write-2.ensures.room c.in_ok-third.third (c.write.ensures.room c.in_ok-third.third c.in_ok-third.ensures.room))

pub returns-clause-test : goal.returns-clause-test
unfolding schedules
returns-clause-test c = λ k.
    let first = to_z-of_z w32 c.in_ok-first.first (search rules) in
    let second = to_z-of_z w32 c.in_ok-second.second (search rules) in
    let third = to_z-of_z w32 c.in_ok-third.third (search rules) in
    c.in_ok-first.ensures.test _ ∙ (c.in_ok-second.ensures.test _ ∙ (c.in_ok-third.ensures.test _
    ∙ ap k (sym (scheduled (state_of c.args.state.now) (state_of c.write.new.self) (state_of c.write-2.new.self)
    (state_of c.write-3.new.self) _ _ _
    c.write.ensures.state c.write-2.ensures.state c.write-3.ensures.state (first ∙ c.in_ok-first.ensures.word)
    (second ∙ c.in_ok-second.ensures.word) (third ∙ c.in_ok-third.ensures.word)))))

pub returns-clause-belongs : goal.returns-clause-belongs
returns-clause-belongs c =
    c.write-3.ensures.belongs c.args.self.now.module.now
    (c.write-2.ensures.belongs c.args.self.now.module.now
    (c.write.ensures.belongs c.args.self.now.module.now c.requires))
