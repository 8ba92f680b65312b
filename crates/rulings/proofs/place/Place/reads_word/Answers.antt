use Rattle.std.proofs.Common.{arith, ◌+ℤ◌}
use Rattle.std.proofs.lemmas.Int.{ints}
use Rattle.rulings.proofs.Steps.{read-by, passed-as}
use Rattle.rulings.proofs.place.Place.reads_word.Goals as goal

pub returns-clause-test : goal.returns-clause-test
returns-clause-test c =
    read-by _ _ (c.args.state.now.depth +ℤ c.args.distance) _ _ _ c.ok_or.ensures.value (omega (arith, ints))
    (c.readable_word-word.ensures.allowed c.args.self.now.module.now c.requires)

pub returns-clause-word : goal.returns-clause-word
returns-clause-word c =
    passed-as (c.args.state.now.depth +ℤ c.args.distance) _ c.readable_word-word.result c.ok_or.result c.ok_or.ensures.value
    (omega (arith, ints)) c.readable_word-word.ensures.some
