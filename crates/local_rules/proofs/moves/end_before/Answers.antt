use Rattle.std.proofs.Common.{arith, to_z, of_z, ◌+ℤ◌}
use Rattle.std.proofs.lemmas.Int.{ints}
use Rattle.std.specs.Int.{w64}
use Rattle.local_rules.proofs.RulesTold.{order_told}
use Rattle.local_rules.proofs.moves.end_before.Goals as goal

pub returns : goal.returns
returns c = order_told
    (to_z w64 (of_z w64 (to_z w64 (of_z w64 c.from.result) +ℤ to_z w64 (of_z w64 c.from-2.result))))
    (to_z w64 (of_z w64 c.from-3.result)) (c.args.offset +ℤ c.args.count) c.args.other (omega (arith, ints))
    (omega (arith, ints))
