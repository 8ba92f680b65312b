use Rattle.std.proofs.Common.{arith, ◌+ℤ◌}
use Rattle.std.proofs.lemmas.Int.{ints}
use Rattle.states.specs.Views.{CanWrite}
use Rattle.rulings.proofs.Steps.{written-by, passed-on, passed-as}
use Rattle.rulings.proofs.place.Place.writes_word.Goals as goal

pub returns-clause-test : goal.returns-clause-test
returns-clause-test c =
    written-by _ _ (c.args.state.now.depth +ℤ c.args.distance) _ _ _ c.ok_or.ensures.value (omega (arith, ints))
    (c.writable_word-word.ensures.allowed c.args.self.now.module.now c.requires)

pub returns-clause-room : goal.returns-clause-room
returns-clause-room c =
    passed-on (CanWrite c.args.state.now) c.writable_word-word.result c.ok_or.result c.ok_or.ensures.value
    (c.writable_word-word.ensures.room c.args.self.now.module.now c.requires)

pub returns-clause-word : goal.returns-clause-word
returns-clause-word c =
    passed-as (c.args.state.now.depth +ℤ c.args.distance) _ c.writable_word-word.result c.ok_or.result c.ok_or.ensures.value
    (omega (arith, ints)) c.writable_word-word.ensures.some
