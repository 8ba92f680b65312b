use Rattle.std.proofs.Common.{◌≡◌, map, take}
use Rattle.module_format.specs.Contents.{Contents}
use Rattle.states.specs.Spans.{together}
use Rattle.states.specs.Views.{state_of, BelongsTo}
use Rattle.call_rules.specs.Callings.{passed_to, call_in}
use Rattle.call_rules.proofs.passed.all_passed.Given as goal

abbrev pub invariant-loop-parameter : goal.invariant-loop-parameter
invariant-loop-parameter l = record {
  state : state_of l.state ≡ state_of l.fn.state;
  belongs : (m : Contents) → BelongsTo m l.fn.state → BelongsTo m l.state;
  passed : l.all.items
      ≡ map (passed_to (call_in l.place.module.now l.fn.state l.callee)) (take l.parameter-index
      l.callee.parameters.items);
  summed : l.summed.all ≡ together (state_of l.fn.state).frame l.summed.first l.summed.count;
}
