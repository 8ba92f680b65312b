use Rattle.std.proofs.Common.{arith}
use Rattle.std.proofs.lemmas.Int.{ints}
use Rattle.local_rules.specs.MemoryRules.{element_of}
use Rattle.local_rules.proofs.RulesTold.{near_told}
use Rattle.local_rules.proofs.shifting.element_of.Goals as goal

pub returns-in-Word : goal.returns-in-Word
unfolding element_of
returns-in-Word c =
    rw c.in-Word.is (near_told c.pointer_further-in-Word.result _ _ _ _ _ _ (omega (arith, ints)) (omega (arith, ints))
    c.pointer_further-in-Word.ensures)
