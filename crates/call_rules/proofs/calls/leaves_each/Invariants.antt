use Rattle.std.proofs.Common.{◌≡◌, length}
use Rattle.std.specs.List.{AllByRecursion}
use Rattle.states.specs.Views.{state_of, BelongsTo}
use Rattle.call_rules.specs.Callings.{with_each, OwnsLent}
use Rattle.call_rules.proofs.calls.leaves_each.Given as goal

abbrev pub invariant-loop-first : goal.invariant-loop-first
invariant-loop-first l = record {
  belongs : BelongsTo l.place.module.now l.state;
  own : AllByRecursion (OwnsLent l.place.module.now l.state.context) l.rest;
  state : record (state_of l.state) { frame = with_each l.rest (state_of l.state).frame }
      ≡ record (state_of l.fn.state) {
        stack = l.state.stack;
        frame = with_each l.all (state_of l.fn.state).frame;
      };
}

abbrev pub decreases-loop-first : goal.decreases-loop-first
decreases-loop-first l = length l.rest
