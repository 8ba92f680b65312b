use Rattle.std.proofs.Common.{◌≡◌, take}
use Rattle.states.specs.Views.{state_of}
use Rattle.explanation_parts.specs.Ways.{seen_in}
use Rattle.explanation_parts.specs.Costs.{entries_price}
use Rattle.explanation_parts.proofs.costs.entries_price.Given as goal

abbrev pub invariant-loop-entry : goal.invariant-loop-entry
invariant-loop-entry l =
    l.cost ≡ entries_price (seen_in l.way (state_of l.state)) (take l.entry-index l.entries) l.number
