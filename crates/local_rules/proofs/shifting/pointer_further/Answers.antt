use Rattle.std.proofs.Common.{arith}
use Rattle.std.proofs.lemmas.Int.{ints}
use Rattle.local_rules.proofs.RulesTold.{near_told}
use Rattle.local_rules.proofs.shifting.pointer_further.Goals as goal

pub returns : goal.returns
returns c =
    near_told c.near_fact.result _ _ _ _ _ _ (omega (arith, ints)) (omega (arith, ints)) c.near_fact.ensures
