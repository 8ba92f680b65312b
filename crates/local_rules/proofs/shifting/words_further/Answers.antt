use Rattle.std.proofs.Common.{arith}
use Rattle.std.proofs.lemmas.Int.{ints}
use Rattle.local_rules.proofs.RulesTold.{shifted_told}
use Rattle.local_rules.proofs.shifting.words_further.Goals as goal

pub returns : goal.returns
returns c = shifted_told c.shifted.result c.args.fact _ _ (omega (arith, ints)) c.shifted.ensures
