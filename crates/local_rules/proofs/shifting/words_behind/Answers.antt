use Rattle.std.proofs.Common.{arith}
use Rattle.std.proofs.lemmas.Int.{ints}
use Rattle.local_rules.specs.MemoryRules.{words_behind}
use Rattle.local_rules.proofs.RulesTold.{words_told}
use Rattle.local_rules.proofs.shifting.words_behind.Goals as goal

pub returns-in-Word-clause-answer : goal.returns-in-Word-clause-answer
unfolding words_behind
returns-in-Word-clause-answer c =
    rw c.in-Word.is (words_told c.words_at.result _ _ _ _ _ (omega (arith, ints)) (omega (arith, ints))
    c.words_at.ensures.answer)
