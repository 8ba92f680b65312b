use Rattle.std.proofs.Common.{rules, ◌∙◌, sym, subst, arith, ℤ, to_z, of_z}
use Rattle.std.proofs.lemmas.Int.{ints, to_z-of_z}
use Rattle.std.specs.Int.{w32}
use Rattle.states.specs.Views.{state_of, CanWrite}
use Rattle.call_rules.proofs.Touching.{passes_may, passes_not}
use Rattle.call_rules.proofs.calls.learns_word.Goals as goal

pub write-requires : goal.write-requires
write-requires c =
    subst (λ (z : ℤ). CanWrite c.args.state.now z) (sym (to_z-of_z w32 c.in-Some.word (search rules)))
    (rw c.in-Some.is at (c.writable_word.ensures.room c.args.place.now.module.now c.requires))

pub returns-in-Some-clause-state : goal.returns-in-Some-clause-state
returns-in-Some-clause-state c =
    let some = rw c.in-Some.is at c.writable_word.ensures.some in
    passes_may c.args.place.now.module.now (state_of c.args.state.now) (state_of c.write.new.self) c.args.distance
    (to_z w32 (of_z w32 c.in-Some.word)) _ c.in-Some.word c.args.fact c.writable_word.result c.in-Some.is
    (omega (arith, ints)) (c.writable_word.ensures.allowed c.args.place.now.module.now c.requires)
    (to_z-of_z w32 c.in-Some.word (search rules) ∙ (some ∙ omega (arith, ints))) c.write.ensures.state

pub returns-in-Some-clause-belongs : goal.returns-in-Some-clause-belongs
returns-in-Some-clause-belongs c = c.write.ensures.belongs c.args.place.now.module.now c.requires

pub returns-in-None-clause-state : goal.returns-in-None-clause-state
returns-in-None-clause-state c =
    passes_not c.args.place.now.module.now
    (state_of c.args.state.now) c.args.distance _ c.args.fact c.writable_word.result
    c.in-None.is (omega (arith, ints)) (c.writable_word.ensures.allowed c.args.place.now.module.now c.requires)
