use Rattle.std.proofs.Common.{◌≡◌, true, take}
use Rattle.std.specs.List.{list_all}
use Rattle.states.specs.Views.{state_of, IsLeft}
use Rattle.rulings.specs.Places.{site_of}
use Rattle.alternation_rules.specs.Guards.{is_below_exit}
use Rattle.alternation_rules.proofs.ends.is_below_each.Given as goal

abbrev pub invariant-loop-number : goal.invariant-loop-number
invariant-loop-number l = record {
  left : IsLeft l.fn.state l.state;
  below : list_all (is_below_exit (site_of l.place) (state_of l.fn.state)) (take l.number l.fn.state.guards.items)
      ≡ true;
}
