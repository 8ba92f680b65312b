use Rattle.std.proofs.Common.{◌≡◌, ℤ, arith, subst, to_z, of_z, ◌+ℤ◌}
use Rattle.std.proofs.lemmas.Int.{ints}
use Rattle.std.specs.Int.{w32}
use Rattle.states.specs.Views.{CanWriteSpan}
use Rattle.rulings.specs.Reach.{word_of_byte, words_touched}
use Rattle.rulings.proofs.ArgumentsAgree.{near_end}
use Rattle.local_rules.proofs.moves.come.Goals as goal

pub fill-requires-clause-near : goal.fill-requires-clause-near
fill-requires-clause-near c =
    let near = near_end c.args.block.to.lo c.args.block.to.hi c.args.block.target in
    let high = near.1 in
    let one = c.args.block.exact in
    omega (arith, ints)

pub fill-requires-clause-room : goal.fill-requires-clause-room
fill-requires-clause-room c = λ zero.
    let lo = c.args.block.to.lo in
    subst (λ (z : ℤ). CanWriteSpan c.args.state.now (word_of_byte lo) (words_touched lo z))
    (let value = c.end.ensures.value in
    let e : c.args.block.to.hi +ℤ c.args.block.count ≡ to_z w32 (of_z w32 c.end.result) = omega (arith, ints) in e)
    (c.requires.room zero)

pub returns-clause-belongs : goal.returns-clause-belongs
returns-clause-belongs c =
    let m = c.args.place.now.module.now in
    c.clears.ensures.belongs m (c.fill.ensures.belongs m c.requires.belongs)
