use Rattle.std.proofs.Common.{rules, arith}
use Rattle.std.proofs.lemmas.Int.{ints}
use Rattle.rulings.proofs.ArgumentsAgree.{touched_told}
use Rattle.rulings.proofs.reach.words_touched.Goals as goal

pub returns : goal.returns
returns c =
    touched_told c.args.first c.args.end _ _ c.word_of_byte-last.result c.word_of_byte.result c.abs_diff.result
    (omega (arith, ints)) c.word_of_byte-last.ensures.value (omega (arith, ints)) c.word_of_byte.ensures.value
    (search (rules, arith, ints))
