use Rattle.std.proofs.Common.{arith}
use Rattle.std.proofs.lemmas.Int.{ints}
use Rattle.rulings.proofs.Reaching.{word_behind, word_ahead}
use Rattle.rulings.proofs.reach.word_of_offset.Goals as goal

pub returns-then-offset-lt0-clause-value : goal.returns-then-offset-lt0-clause-value
returns-then-offset-lt0-clause-value c =
    word_behind c.args.offset c.unsigned_abs-back.result _ (omega (arith, ints)) (omega (arith, ints))

pub returns-clause-value : goal.returns-clause-value
returns-clause-value c =
    word_ahead c.args.offset c.unsigned_abs.result _ (omega (arith, ints)) (omega (arith, ints))
