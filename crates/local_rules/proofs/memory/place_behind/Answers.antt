use Rattle.std.proofs.Common.{arith}
use Rattle.std.proofs.lemmas.Int.{ints}
use Rattle.local_rules.proofs.RulesTold.{place_told}
use Rattle.local_rules.proofs.memory.place_behind.Goals as goal

pub returns : goal.returns
returns c =
    place_told c.args.place.now.module.now c.place_fact.result _ _ (omega (arith, ints)) c.place_fact.ensures
