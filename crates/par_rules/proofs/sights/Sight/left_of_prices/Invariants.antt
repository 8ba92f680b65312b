use Rattle.std.proofs.Common.{◌≡◌, ◌+◌, take}
use Rattle.std.specs.Prelude.{sum_by}
use Rattle.states.specs.Below.{price}
use Rattle.par_rules.specs.Sights.{facts_in}
use Rattle.par_rules.proofs.sights.Sight.left_of_prices.Given as goal

abbrev pub invariant-loop-entry : goal.invariant-loop-entry
invariant-loop-entry l = l.left + sum_by (price (facts_in l.self)) (take l.entry-index l.entries) ≡ l.number
