use Rattle.std.proofs.Common.{arith}
use Rattle.states.specs.Below.{price}
use Rattle.par_rules.specs.Sights.{facts_in}
use Rattle.par_rules.proofs.Paying.{is_not_covered}
use Rattle.par_rules.proofs.sights.Sight.left_of_prices.Goals as goal

pub returns-in_err-left : goal.returns-in_err-left
returns-in_err-left c =
    let low = c.loop-entry-test.true in
    rw c.from_residual.ensures
    (is_not_covered (price (facts_in c.args.self.now)) c.args.entries.now c.loop-entry.entry-index _ c.loop-entry.left
    c.args.number (omega (arith, low)) c.loop-entry.invariant c.in_err-left.ensures)
