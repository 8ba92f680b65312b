use Rattle.std.proofs.Common.{arith, to_z, of_z}
use Rattle.std.proofs.lemmas.Int.{ints}
use Rattle.std.specs.Int.{w64}
use Rattle.local_rules.specs.MemoryRules.{shifted}
use Rattle.local_rules.proofs.RulesTold.{word_told, pointer_told}
use Rattle.local_rules.proofs.shifting.shifted.Goals as goal

pub returns-in-Number : goal.returns-in-Number
unfolding shifted
returns-in-Number c =
    rw c.in-Number.is (word_told c.word_fact.result _ _ _ _ (omega (arith, ints)) (omega (arith, ints))
    c.word_fact.ensures)

pub returns-else-not-are_near : goal.returns-else-not-are_near
returns-else-not-are_near c =
    rw c.in-Pointer.is (pointer_told c.near_fact.result c.args.by c.in-Pointer.region c.in-Pointer.step c.in-Pointer.lo
    c.in-Pointer.hi (to_z w64 (of_z w64 c.from-lo.result))
    (to_z w64 (of_z w64 c.from-hi.result)) _ _ c.if-not-are_near.ensures (omega (arith, ints)) (omega (arith, ints))
    (omega (arith, ints))
    (omega (arith, ints)) c.near_fact.ensures)
